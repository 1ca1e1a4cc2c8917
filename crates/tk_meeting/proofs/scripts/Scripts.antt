-- Each meeting has a script: the list of what was said for each turn, client by client.
use Rattle.tk_meeting.proofs.Terms.{ℕ, List, [], ◌∷◌, map, flat_map, ◌==◌, ◌++◌, filter, ◌∙◌, refl, ap, sym, arith}
use Rattle.tk_meeting.proofs.Terms.{range_with_len, AllByRecursion, turn_count, writer_of, Script, met, HasWhatWasSaid}
use Rattle.tk_meeting.proofs.Terms.{saying_of, Saying, Meeting, MeetingsHaveScripts}
use Rattle.tk_script.specs.declared.say.Say.{Say}
use Rattle.tk_meeting.proofs.scripts.Sayable.{MaySay, IsSayable, met-sayable}
use Rattle.tk_meeting.proofs.scripts.Listing.{says_from, IsFit, from-ordered, from-sound}
use Rattle.tk_meeting.proofs.scripts.Finding.{turn-has, client-says}

module _ (S : Script) (m : Meeting) (is : IsSayable S m) where
  -- what was said for a turn, client by client
  abbrev pub said_for : ℕ → List Saying
  said_for g = flat_map (λ c. m.said c g) (range_with_len 0 S.shape.clients)

  abbrev pub all_says : List Say
  all_says = says_from S.shape said_for 0 (turn_count S.shape)

  pub fits : (c : ℕ) (ys : List Saying) → AllByRecursion (MaySay S c) ys → AllByRecursion (IsFit S.shape) ys
  fits c [] may = tt
  fits c (y ∷ ys) may = (record { low = may.0.of.low; free = may.0.free }, fits c ys may.1)

  pub both-fit : (xs ys : List Saying) → AllByRecursion (IsFit S.shape) xs →
      AllByRecursion (IsFit S.shape) ys → AllByRecursion (IsFit S.shape) (xs ++ ys)
  both-fit [] ys a b = b
  both-fit (x ∷ xs) ys a b = (a.0, both-fit xs ys a.1 b)

  pub all-fit : (g : ℕ) (cs : List ℕ) → AllByRecursion (IsFit S.shape) (flat_map (λ c. m.said c g) cs)
  all-fit g [] = tt
  all-fit g (c ∷ cs) =
      both-fit (m.said c g) (flat_map (λ d. m.said d g) cs) (fits c (m.said c g) (is.each c g)) (all-fit g cs)

  abbrev pub script_of : Script
  script_of =
      record {
        shape = S.shape;
        keys = S.keys;
        roles = S.roles;
        says = all_says;
        sound =
            record {
              keys_counted = S.sound.keys_counted;
              tape_fits = S.sound.tape_fits;
              roles_counted = S.sound.roles_counted;
              roles_sound = S.sound.roles_sound;
              says_sound = from-sound S.shape said_for 0 (turn_count S.shape) (omega arith)
                  (λ g. all-fit g (range_with_len 0 S.shape.clients));
              says_ordered = from-ordered S.shape said_for 0 (turn_count S.shape);
            };
      }

  pub tells : HasWhatWasSaid script_of m
  tells c g client in_turns =
      sym
      (ap (λ (ys : List Say). map saying_of (filter (λ y. writer_of S y.log == c) ys))
      (turn-has S.shape g said_for (turn_count S.shape) in_turns)
      ∙ client-says S (λ d. m.said d g) S.shape.clients g c client (λ d. is.each d g))

pub meetings-have-scripts : MeetingsHaveScripts
meetings-have-scripts S books events =
    let m : Meeting = met S books events in
    let is : IsSayable S m = met-sayable S books events in
    record {
      script = script_of S m is;
      same_shape = refl;
      same_keys = refl;
      same_roles = refl;
      tells = tells S m is;
    }
