-- What ties the exported services to the written meanings.
pub mod Services
pub mod Plans
pub mod Terms
