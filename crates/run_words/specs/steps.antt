-- The steps by which the words are read, for private functions.
pub mod Reading
pub mod Views
