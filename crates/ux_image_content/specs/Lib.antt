pub mod Contents
pub mod Files
pub mod Walking
