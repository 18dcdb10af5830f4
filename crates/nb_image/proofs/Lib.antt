mod AddedLemmas
mod FirstLineLemmas
mod KindLemmas
mod ListLemmas
mod RemoveLemmas
mod PagesLemmas
pub mod PartsLemmas
