-- What a listing says of a cycle, as statements: whose accesses they are, and where WMADD stands among them.
pub mod Credit
pub mod Standing
