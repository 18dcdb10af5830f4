pub mod HeadLemmas
pub mod PduLemmas
pub mod StreamLemmas
pub mod KeyLemmas
pub mod CutLemmas
