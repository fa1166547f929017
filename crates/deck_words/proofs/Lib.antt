pub mod HeldValues
