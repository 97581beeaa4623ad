-- ---- one layer of a tree at a time
pub mod ExpressionEquations
pub mod StatementEquations
-- ---- steps on two states that show the same do alike
pub mod Alike
pub mod AlikePlaces
pub mod AlikeOperands
pub mod AlikeExpressions
pub mod AlikeStatements
pub mod AlikeCalls
pub mod Carried
pub mod Stated
pub mod ActsAlike
pub mod AlikeFirings
-- ---- maps of instances, pairs, private parts, and the body of the specification
pub mod Members
pub mod Maps
pub mod Pairs
pub mod PrivateParts
pub mod RootBodies
-- ---- a property of steps that every expression and statement has
pub mod Kept
pub mod KeptExpressions
pub mod KeptStatements
pub mod ActsKept
pub mod BlocksKept
-- ---- loops, units and frames
pub mod LoopLaws
pub mod Units
pub mod UnitsOfBlocks
pub mod UnitsOfActions
pub mod FrameLemmas
-- ---- examples
pub mod Trees
pub mod Forms
pub mod Points
pub mod Fitting
pub mod WorkedExpressions
pub mod WorkedStatements
pub mod WorkedCalls
pub mod WorkedFaults
pub mod WorkedActions
pub mod WorkedNames
pub mod WorkedFiring
pub mod WorkedLinks
pub mod WorkedRelease
pub mod WorkedQueues
pub mod WorkedDelays
pub mod WorkedSelection
pub mod WorkedPriorities
