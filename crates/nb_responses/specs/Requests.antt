-- RFC 9112, section 3, and RFC 9110, section 7.2: the request that is sent, and that it is one
use Rattle.std.specs.Prelude.{◌≡◌, ◌<◌, ◌^◌, ◌&&◌, ℕ, ◌==◌, Bool, List, [], ◌∷◌, ◌++◌, length, nat_lt, if◌then◌else◌, codes}
use Rattle.std.specs.Fmt.{decimal}
use Rattle.httparse.specs.Ascii.{space}
use Rattle.httparse.specs.Grammar.{AllPass, crlf, Field, RequestHead, ReadsRequest}

-- the port of plain HTTP isn't named
abbrev pub port_text : ℕ → List ℕ
port_text port = if port == 80 then [] else (codes ":" ++ decimal port)

abbrev pub request_text : List ℕ → ℕ → List ℕ → List ℕ
request_text host port path =
    codes "GET " ++ path ++ codes " HTTP/1.1\r\nHost: " ++ host ++ port_text port
    ++ codes "\r\nUser-Agent: netboot\r\nConnection: close\r\n\r\n"

-- a byte that is seen: no blank, no control, none past ASCII
abbrev pub is_visible : ℕ → Bool
is_visible b = nat_lt 32 b && nat_lt b 127

-- the texts of a request: a host that isn't empty and a path from the root, each of visible bytes
pub record IsSendable (host path : List ℕ) : Type 0 where
  pub named : 0 < length host
  pub host_seen : AllPass is_visible host
  pub below : List ℕ
  pub rooted : path ≡ 47 ∷ below
  pub path_seen : AllPass is_visible path

-- the value of Host
abbrev pub server_text : List ℕ → ℕ → List ℕ
server_text host port = host ++ port_text port

abbrev pub field_line : List ℕ → List ℕ → Field
field_line name value = record { name = name; raw = space ∷ value; end = crlf }

-- its head in the grammar of requests: one GET of HTTP/1.1 with these three fields
abbrev pub sent_head : List ℕ → ℕ → List ℕ → RequestHead
sent_head host port path = record {
  blank = [];
  method = codes "GET";
  target = path;
  minor = 1;
  line_end = crlf;
  fields = field_line (codes "Host") (server_text host port) ∷ field_line (codes "User-Agent") (codes "netboot")
      ∷ field_line (codes "Connection") (codes "close") ∷ [];
  last = crlf;
}

-- A text is one request: the grammar reads it as this head, with nothing before or after; whoever reads a request from it,
-- whatever follows, reads this one to its end; and its target and its Host are visible bytes alone.
pub record IsOneRequest (host : List ℕ) (port : ℕ) (path text : List ℕ) : Type 0 where
  pub reads : ReadsRequest text (sent_head host port path) []
  pub only : (more rest : List ℕ) (h : RequestHead) → ReadsRequest (text ++ more) h rest
      → (h ≡ sent_head host port path) × (rest ≡ more)
  pub target : AllPass is_visible path
  pub server : AllPass is_visible (server_text host port)

-- so is each request
abbrev pub EachIsOneRequest : Type 0
EachIsOneRequest = (host path : List ℕ) (port : ℕ) → port < 2 ^ 16 → IsSendable host path
    → IsOneRequest host port path (request_text host port path)
