pub mod MemberLaws
pub mod ReplyLaws
