-- A request of visible texts is one request.
use Rattle.std.proofs.Common.{◌≡◌, ◌<◌, ◌≤◌, ◌^◌, ◌||◌, ◌&&◌, not, ℕ, Bool, true, false, List, [], ◌∷◌, ◌++◌, length, All, nat_eq, nat_lt, ltb, leb, refl, ap, ◌∙◌, sym, subst, arith, append-nil, append_assoc, codes}
use Rattle.std.specs.Prelude.{IsTrue, IsAscii}
use Rattle.std.specs.Int.{IsInRange}
use Rattle.std.specs.List.{list_all}
use Rattle.std.specs.Fmt.{decimal}
use Rattle.std.proofs.lemmas.Bool.Decides.{nat_tests}
use Rattle.std.proofs.lemmas.Fmt.{digits_decimal}
use Rattle.std.proofs.lemmas.List.Elements.{All-nil, All-cons, All-head, All-tail, All-append, All-weaker, All-from_get_or}
use Rattle.std.proofs.lemmas.List.Sums.{AllPass-from_list_all}
use Rattle.std.proofs.lemmas.Str.{IsUtf8-from_ascii}
use Rattle.std.proofs.lemmas.Str.Ascii.{IsAscii-nil, IsAscii-cons}
use Rattle.std.proofs.lemmas.Str.Parse.{numerals_by_value, tells_by_index}
use Rattle.httparse.specs.Grammar.{is_token_byte, is_uri_byte, is_value_byte, AllPass, IsToken, Field, IsField, RequestHead, IsRequestHead, print_request, ReadsRequest}
use Rattle.httparse.proofs.GrammarLemmas.{request_prefix_free}
use Rattle.nb_responses.specs.Requests.{port_text, request_text, is_visible, IsSendable, server_text, field_line, sent_head, IsOneRequest}
use Rattle.nb_responses.proofs.Cases.{either}

digit_seen : (b : ℕ) → IsInRange 48 57 b → IsTrue (is_visible b)
digit_seen b digit = grind (arith, nat_tests)

decimal_seen : (port : ℕ) → port < 2 ^ 16 → AllPass is_visible (decimal port)
decimal_seen port small =
    All-from_get_or (λ b. IsTrue (is_visible b)) (decimal port) 0 (λ i inside. digit_seen _ (digits_decimal (numerals_by_value _ tells_by_index) port (omega (arith, small)) i inside))

port_seen : (port : ℕ) → port < 2 ^ 16 → AllPass is_visible (port_text port)
port_seen port small = either (nat_eq port 80)
    (λ on. rw on (All-nil (λ b. IsTrue (is_visible b))))
    (λ off. rw off (All-cons (λ b. IsTrue (is_visible b)) 58 (decimal port) refl (decimal_seen port small)))

server_seen : (host : List ℕ) (port : ℕ) → AllPass is_visible host → port < 2 ^ 16 → AllPass is_visible (server_text host port)
server_seen host port seen small = All-append (λ b. IsTrue (is_visible b)) host (port_text port) seen (port_seen port small)

uri_byte : (b : ℕ) → IsTrue (is_visible b) → IsTrue (is_uri_byte b)
uri_byte b seen = grind (arith, nat_tests)

value_byte : (b : ℕ) → IsTrue (is_visible b) → IsTrue (is_value_byte b)
value_byte b seen = grind (arith, nat_tests)

ascii_byte : (b : ℕ) → IsTrue (is_visible b) → b < 128
ascii_byte b seen = grind (arith, nat_tests)

visible_ascii : (bytes : List ℕ) → AllPass is_visible bytes → IsAscii bytes
visible_ascii [] seen = IsAscii-nil
visible_ascii (b ∷ bytes) seen = IsAscii-cons b bytes (ascii_byte b (All-head (λ b. IsTrue (is_visible b)) b bytes seen)) (visible_ascii bytes (All-tail (λ b. IsTrue (is_visible b)) b bytes seen))

-- a field of a name and of visible bytes
field_is : (name value : List ℕ) → IsToken name → AllPass is_visible value → IsField (field_line name value)
field_is name value token seen = record {
  name = token;
  raw = All-cons (λ b. IsTrue (is_value_byte b)) 32 value refl (All-weaker (λ b. IsTrue (is_visible b)) (λ b. IsTrue (is_value_byte b)) value_byte value seen);
}

-- a name of the fields that are sent
token : (name : List ℕ) → 0 < length name → list_all is_token_byte name ≡ true → IsToken name
token name some all = (some, AllPass-from_list_all is_token_byte name all)

get_token : IsToken (codes "GET")
unfolding is_token_byte
get_token = token (codes "GET") (omega arith) refl

host_token : IsToken (codes "Host")
unfolding is_token_byte
host_token = token (codes "Host") (omega arith) refl

agent_token : IsToken (codes "User-Agent")
unfolding is_token_byte
agent_token = token (codes "User-Agent") (omega arith) refl

connection_token : IsToken (codes "Connection")
unfolding is_token_byte
connection_token = token (codes "Connection") (omega arith) refl

head_is : (host path : List ℕ) (port : ℕ) → port < 2 ^ 16 → IsSendable host path → IsRequestHead (sent_head host port path)
head_is host path port small s =
    let F = field_line (codes "Host") (server_text host port) in
    let G = field_line (codes "User-Agent") (codes "netboot") in
    let H = field_line (codes "Connection") (codes "close") in
    let named : IsField F = field_is (codes "Host") (server_text host port) host_token (server_seen host port s.host_seen small) in
    let agent : IsField G = field_is (codes "User-Agent") (codes "netboot") agent_token (AllPass-from_list_all is_visible (codes "netboot") refl) in
    let closing : IsField H = field_is (codes "Connection") (codes "close") connection_token (AllPass-from_list_all is_visible (codes "close") refl) in
    record {
      method = get_token;
      target = (omega (arith, ap length s.rooted), All-weaker (λ b. IsTrue (is_visible b)) (λ b. IsTrue (is_uri_byte b)) uri_byte path s.path_seen);
      target_text = IsUtf8-from_ascii path (visible_ascii path s.path_seen);
      minor = omega arith;
      fields = All-cons IsField F (G ∷ H ∷ []) named (All-cons IsField G (H ∷ []) agent (All-cons IsField H [] closing (All-nil IsField)));
    }

-- the pieces of the text, and those of the head
text_pieces : (start path line host port end : List ℕ) → start ++ path ++ line ++ host ++ port ++ end ≡ start ++ (path ++ (line ++ (host ++ (port ++ end))))
text_pieces start path line host port end = simp (append_assoc) refl

head_pieces : (path version end name host port fields : List ℕ)
    → ((path ++ version) ++ end) ++ (((name ++ ((host ++ port) ++ end)) ++ fields) ++ end) ≡ path ++ ((version ++ (end ++ name)) ++ (host ++ (port ++ ((end ++ fields) ++ end))))
head_pieces path version end name host port fields = simp (append_assoc) refl

printed : (host path : List ℕ) (port : ℕ) → request_text host port path ≡ print_request (sent_head host port path)
unfolding print_request
printed host path port =
    text_pieces (codes "GET ") path (codes " HTTP/1.1\r\nHost: ") host (port_text port) (codes "\r\nUser-Agent: netboot\r\nConnection: close\r\n\r\n")
    ∙ ap (λ t. codes "GET " ++ t) (sym (head_pieces path (codes " HTTP/1.1") (codes "\r\n") (codes "Host: ") host (port_text port) (codes "User-Agent: netboot\r\nConnection: close\r\n")))

pub one_request : (host path : List ℕ) (port : ℕ) → port < 2 ^ 16 → IsSendable host path → IsOneRequest host port path (request_text host port path)
one_request host path port small s =
    let text : List ℕ = request_text host port path in
    let reads : ReadsRequest (request_text host port path) (sent_head host port path) [] =
    (head_is host path port small s, printed host path port ∙ sym (append-nil (print_request (sent_head host port path)))) in
    record {
      reads = reads;
      only = λ more rest h other.
          let same : (sent_head host port path ≡ h) × ([] ++ more ≡ rest) = request_prefix_free text more (sent_head host port path) h [] rest reads other in
          (sym same.0, sym same.1);
      target = s.path_seen;
      server = server_seen host port s.host_seen small;
    }
