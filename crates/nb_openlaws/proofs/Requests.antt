-- What HTTP says on a connection, whatever its URL: its request, given as it begins if there is one, and nothing else.
use Rattle.std.proofs.Common.{◌≡◌, ℕ, List, [], ◌∷◌, ◌++◌, map, refl, sym, ◌∙◌, ap, append_assoc, arith}
use Rattle.std.proofs.lemmas.List.{map-append}
use Rattle.nb_streams.specs.Segments.{Arrival}
use Rattle.nb_streams.specs.Flows.{TcpCall, text_came}
use Rattle.nb_streams.specs.Trying.{timer_after}
use Rattle.nb_talks.specs.Talking.{Came, by_segment, text_to_send, begun_talk, talk_after}
use Rattle.nb_talks.specs.TalkPromises.{Put, PutsSo}
use Rattle.nb_webs.specs.Webs.{NoTask, web, call_of, web_put}
use Rattle.nb_webs.proofs.WebLaws.{all_went_on, says_once, segment_alone}

-- a connection's calls: its request, if there is one, and then what came
abbrev pub calls_after : List ℕ → ℕ → List (Came NoTask) → List TcpCall
calls_after request start came = text_to_send request start ++ map call_of came

pub calls_more : (request : List ℕ) (start : ℕ) (came : List (Came NoTask)) (c : Came NoTask) → calls_after request start (came ++ c ∷ []) ≡ calls_after request start came ++ call_of c ∷ []
calls_more request start came c = ap (λ z. text_to_send request start ++ z) (map-append call_of came (c ∷ [])) ∙ sym (append_assoc (text_to_send request start) (map call_of came) (call_of c ∷ []))

pub said_once : (request : List ℕ) (isn start : ℕ) (came : List (Came NoTask)) → (talk_after (web request) isn start came).calls ≡ calls_after request start came
said_once [] isn start came = all_went_on [] isn came (begun_talk (web []) isn start)
said_once (b ∷ bytes) isn start came = says_once (b ∷ bytes) isn start came (omega arith)

-- what a segment puts
pub puts_once : (request : List ℕ) (isn start : ℕ) (came : List (Came NoTask)) (m : Arrival) (now : ℕ) (put : Put) → PutsSo (web request) isn start (talk_after (web request) isn start came) (by_segment m now) put →
    put ≡ web_put isn (calls_after request start came) m now
puts_once request isn start came m now put puts =
    puts ∙ segment_alone request isn (talk_after (web request) isn start came) m now ∙ ap (λ cs. web_put isn cs m now) (said_once request isn start came)

-- an empty text leaves the timer as it was
pub timer_said : (isn start : ℕ) (request : List ℕ) (cs : List TcpCall) → timer_after isn start (text_came request start ∷ cs) ≡ timer_after isn start (text_to_send request start ++ cs)
unfolding timer_after
timer_said isn start [] cs = refl
timer_said isn start (b ∷ bytes) cs = refl
