pub mod Agendas
pub mod FirstEnds
pub mod Walking
pub mod Walkers
