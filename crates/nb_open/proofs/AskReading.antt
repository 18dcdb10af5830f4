-- The bytes that ask for a file by HTTP are read back.
use Rattle.std.proofs.Common.{◌≡◌, ℕ, ◌<◌, ◌≤◌, ◌^◌, cond, List, ◌++◌, length, take, drop, Some, None, refl, ◌∙◌, ap, length-append, arith}
use Rattle.std.proofs.Math.Seq.{take-append_seam, drop-append_seam}
use Rattle.std.proofs.lemmas.Bool.{le-leb}
use Rattle.std.proofs.lemmas.Nat.{from_be_bytes-to_be_bytes_2, from_be_bytes-to_be_bytes_4}
use Rattle.nb_conns.specs.declared.conn_ask.ConnAsk.{ConnAsk}
use Rattle.nb_conns.specs.ConnAsks.{conn_ask_bytes, conn_ask_in}
use Rattle.nb_webnodes.specs.WebAsks.{web_ask_in, web_ask_of}

-- its numbers are as large as they may be
pub record Fits (a : ConnAsk) : Type 0 where
  pub peer : a.peer.0 < 2 ^ 32
  pub peer_port : a.peer_port < 2 ^ 16
  pub own : a.own.0 < 2 ^ 32
  pub own_port : a.own_port < 2 ^ 16
  pub isn : a.isn < 2 ^ 32

pub conn_reads_back : (a : ConnAsk) → Fits a → conn_ask_in (conn_ask_bytes a) ≡ Some a
conn_reads_back a f =
    rw (from_be_bytes-to_be_bytes_4 a.peer.0 f.peer, from_be_bytes-to_be_bytes_2 a.peer_port f.peer_port, from_be_bytes-to_be_bytes_4 a.own.0 f.own, from_be_bytes-to_be_bytes_2 a.own_port f.own_port, from_be_bytes-to_be_bytes_4 a.isn f.isn) refl

host_of : (conn : ConnAsk) (host path : List ℕ) → web_ask_of (Some conn) (length host) (host ++ path) ≡ Some (record { conn = conn; host = host; path = path })
host_of conn host path =
    let first : length host ≤ length (host ++ path) = let all = length-append host path in omega (arith, all) in
    ap (λ b. cond b (Some (record { conn = conn; host = take (length host) (host ++ path); path = drop (length host) (host ++ path) })) None) (le-leb (length host) (length (host ++ path)) first)
    ∙ (ap (λ z. Some (record { conn = conn; host = z; path = drop (length host) (host ++ path) })) (take-append_seam host path)
    ∙ ap (λ z. Some (record { conn = conn; host = host; path = z })) (drop-append_seam host path))

pub ask_reads_back : (conn : ConnAsk) (host bytes : List ℕ) → Fits conn → bytes ≡ conn_ask_bytes conn ++ host → (path : List ℕ) → web_ask_in (length host) (bytes ++ path) ≡ Some (record { conn = conn; host = host; path = path })
ask_reads_back conn host bytes fits are path =
    ap (λ z. web_ask_in (length host) (z ++ path)) are ∙ (ap (λ z. web_ask_of z (length host) (host ++ path)) (conn_reads_back conn fits) ∙ host_of conn host path)
