-- A page of work RAM as a hex dump, and the place that names it.
pub mod Page
pub mod Place
