-- The bound on bends: Bound has the theorems, Attained foils that meet it; Room has what follows for the corner places
-- that are lent.
pub mod Bound
pub mod Attained
pub mod Room
