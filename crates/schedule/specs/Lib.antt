pub mod Grammar
pub mod Made
pub mod Printed
pub mod Reading
pub mod Results
