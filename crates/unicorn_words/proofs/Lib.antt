pub mod Asked
pub mod Lying
pub mod Taken
pub mod Given
pub mod Found
pub mod Worked
