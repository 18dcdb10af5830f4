pub mod PacketText
pub mod UdpText
pub mod EchoText
