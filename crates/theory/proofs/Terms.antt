-- The terms: every statement of the specification's Terms, proved, and the hollow controllers that they shut out.
pub mod Plans
pub mod Services
pub mod Yards
pub mod Hollow
pub mod Controller
