-- Laws of quotas and charges as the code adds them up.
pub mod Laws
