-- Definitions that contracts cite, and laws for the crates above.
-- results of reading, flatbuffers
pub mod ReadResults
pub mod Flatbuffers
pub mod PartBytes
pub mod WriteErrors
pub mod FlatbufferLaws
pub mod TemplateLaws
pub mod VectorLaws
pub mod VectorLoops
-- messages
pub mod Messages
pub mod MessageBytes
pub mod MessageLaws
pub mod MessageExamples
-- record batches and dictionary batches
pub mod Compression
pub mod Batches
pub mod VariadicBuffers
pub mod StoredArrays
pub mod BatchBytes
pub mod BatchLaws
pub mod DictionaryBytes
pub mod DictionaryLaws
pub mod BatchExamples
pub mod CompressionExamples
pub mod RootExamples
pub mod BatchErrorExamples
