pub mod Heap
pub mod Entries
pub mod Search
