pub mod ReadingSpecs
