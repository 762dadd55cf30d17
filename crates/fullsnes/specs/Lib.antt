-- What is generally known of the console's transfers and tables; Fullsnes, which describes them, was not at hand.
pub mod Said
