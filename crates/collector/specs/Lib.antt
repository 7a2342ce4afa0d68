pub mod Fault
pub mod Program
pub mod Runs
pub mod Serving
pub mod Showing
pub mod Taking
