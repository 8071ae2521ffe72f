-- The laws about the definition, and the tables computed.
pub mod EachCall
pub mod PieceStarts
pub mod MaskedLayouts
pub mod TokenMaps
pub mod MaskedMaps
pub mod TwoCalls
pub mod OneLength
pub mod AnswerNumbers
pub mod MapCalls
pub mod AsciiPairs
pub mod MaskingTests
pub mod Origins
pub mod Tables
pub mod CallLimits
pub mod MaskingNeeds
pub mod Running
