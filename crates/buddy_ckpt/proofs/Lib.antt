pub mod CopyLemmas
pub mod KeeperLemmas
