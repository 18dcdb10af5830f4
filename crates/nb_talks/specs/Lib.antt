pub mod Talking
pub mod TalkPromises
