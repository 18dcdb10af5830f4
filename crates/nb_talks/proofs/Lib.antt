pub mod TalkLaws
pub mod TalkPromiseLaws
