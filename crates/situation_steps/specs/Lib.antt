-- ---- the systems of a situation, and what is kept of them
pub mod Systems
-- ---- what a firing leaves of other systems
pub mod Others
-- ---- how a run goes on
pub mod UnderWay
pub mod Laws
pub mod Ends
