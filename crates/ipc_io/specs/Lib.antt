-- What contracts cite.
pub mod Writes
pub mod Fetched
pub mod Writers
pub mod WriterLaws
pub mod FileWriters
pub mod FileWriterLaws
pub mod StreamReaders
pub mod ReaderLaws
pub mod Seeks
pub mod FileReaders
pub mod FileReaderLaws
pub mod FileMetadata
pub mod FileMetadataLaws
pub mod BatchInfos
pub mod Infos
pub mod InfoLaws
