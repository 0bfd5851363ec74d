pub mod BareShapes
pub mod FirstForm
pub mod GivenLaws
pub mod Growing
pub mod LocalCodes
mod MachineExamples
pub mod NeverSticks
pub mod OnlyLocal
pub mod Operands
mod PathExamples
pub mod ReadingBack
pub mod RefusedMembers
mod SampleExamples
pub mod SampleTrue
pub mod ShapeCalls
pub mod ShapeCodes
pub mod ShapeEdges
pub mod ShapeLaws
pub mod ShapeMembers
pub mod ShapeOperands
pub mod ShapeSimple
pub mod ShapeTables
pub mod ShapeTurns
pub mod Starting
pub mod StaysTrue
pub mod Stripped
pub mod TestedRuns
pub mod Walking
pub mod WritingLaws
