-- The records of what an open asks: its messages, tries and places; and its own end.
use Rattle.std.specs.Prelude.{ℕ, nat_lt, Bool, true, false, List, [], ◌∷◌, ◌++◌, length, Option, Some, None, if◌then◌else◌}
use Rattle.nb_terms.specs.declared.cause.Cause.{Cause}
use Rattle.nb_terms.specs.declared.acts.Acts.{Acts}
use Rattle.nb_terms.specs.declared.acts.SendTo.{SendTo}
use Rattle.nb_defs.specs.Records.{Out, sent, tried, advanced}
use Rattle.nb_stack.specs.Client.{Client}
use Rattle.nb_stack.specs.Sends.{way_of, put_on, fate_of}
use Rattle.nb_stack.specs.declared.taken.Fate.{Fate}
use Rattle.nb_stack.specs.declared.taken.Fate.TheVariants as fate
use Rattle.nb_tftp.specs.Asks.{Begun, last_message}

abbrev pub is_on_its_way : Fate → Bool
is_on_its_way fate.Sent = true
is_on_its_way fate.Asked = true
is_on_its_way fate.NoRoute = false

-- the message finds a route
abbrev pub has_route : Client → SendTo → Bool
has_route net message = is_on_its_way (fate_of net (way_of net message))

-- the request
abbrev pub request_of : Begun → SendTo
request_of b = last_message b None 0

abbrev pub try_records : ℕ → Option ℕ → List Out
try_records number None = []
try_records number (Some n) = tried number n ∷ []

-- a message: TRY where a timer covers it, and its frame, or the ARP request for its next hop; nothing
-- where it finds no route
abbrev pub send_records : Client → ℕ → Option ℕ → SendTo → List Out
send_records net number try message =
    if has_route net message then try_records number try ++ (sent (put_on net message (way_of net message)) ∷ []) else []

-- messages, of which a timer covers the last
unfoldable pub sends_records : Client → ℕ → Option ℕ → List SendTo → List Out
sends_records net number try [] = []
sends_records net number try (m ∷ []) = send_records net number try m
sends_records net number try (m ∷ n ∷ ms) = send_records net number None m ++ sends_records net number try (n ∷ ms)

abbrev pub advance_records : ℕ → Option ℕ → List Out
advance_records number None = []
advance_records number (Some place) = advanced number place ∷ []

-- what a transfer asked: the place to which it has come, and its messages
unfoldable pub acts_records : Client → ℕ → Acts → List Out
acts_records net number acts = advance_records number acts.advance ++ sends_records net number acts.tried acts.sends.items

-- an image has at most 268,435,456 bytes
abbrev pub is_over_limit : List ℕ → Bool
is_over_limit body = nat_lt 268435456 (length body)

abbrev pub too_large_image : Cause
too_large_image = record { code = 6; a = 1; b = 0 }

-- the end of an open whose body is this now: the transfer's own, unless the body has grown too large
abbrev pub end_with_body : List ℕ → Acts → Option Cause
end_with_body body acts = if is_over_limit body then Some too_large_image else acts.over
