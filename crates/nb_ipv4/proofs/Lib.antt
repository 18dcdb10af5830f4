pub mod EchoLaws
pub mod NumberLaws
pub mod PacketLaws
pub mod SentLaws
pub mod SentEchoLaws
pub mod SentUdpLaws
pub mod UdpLaws
