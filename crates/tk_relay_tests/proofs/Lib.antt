pub mod RelayedReads
