-- What an entry of a fetch asks for: our own.
use Rattle.std.specs.Prelude.{◌≡◌, ℕ, List, [], ◌∷◌, length, take, map, nat_lt, Option, Some, None, if◌then◌else◌}
use Rattle.std.specs.List.{AllByRecursion}
use Rattle.nb_terms.specs.declared.cause.Cause.{Cause}
use Rattle.nb_effects.specs.declared.effects.Emit.{Emit}
use Rattle.nb_effects.specs.declared.effects.Few.{Few}
use Rattle.nb_effects.specs.declared.effects.Fx.{Fx}
use Rattle.nb_graph.specs.Trace.{Said, carries, Nature}
use Rattle.nb_conns.specs.declared.stream_tag.StreamTag.TheVariants.{Begin, Received, Send}
use Rattle.nb_conns.specs.StreamTags.{stream_tag_number}
use Rattle.nb_conns.specs.ConnEffects.{emits_of, GoesAbove, GoesBelow, received_says}
use Rattle.nb_responses.specs.Requests.{request_text}
use Rattle.nb_http.specs.Standing.{Core, moved_text}
use Rattle.nb_webnodes.specs.declared.asking.Body.{Body}
use Rattle.nb_webnodes.specs.declared.asking.Body.TheVariants.{Range, Block}
use Rattle.nb_webnodes.specs.WebAsks.{AskParts}

-- how a text is one of a graph's loads, with its bytes
pub record WebCarrier (L : Type 0) : Type 0 where
  pub as_load : List ℕ → L
  pub load_bytes : L → List ℕ
  pub same_text : (text : List ℕ) → load_bytes (as_load text) ≡ text

-- the bytes of a load, as nb_graph knows them
abbrev pub web_nature : {L : Type 0} → WebCarrier L → Nature L L
web_nature k = record { kind = λ _. 0; mark = λ _. 0; bytes = k.load_bytes }

-- what one says, where the entry has the message m
abbrev pub web_says : {L : Type 0} → WebCarrier L → Said → Emit L → Said
web_says k m e = record { tag = e.tag; rec = m.rec; a = e.a; b = e.b; bytes = carries (web_nature k) m.bytes e.from e.to e.load }

abbrev pub web_say : {L : Type 0} → WebCarrier L → Said → Few (Emit L) → List Said
web_say k m f = map (web_says k m) (emits_of f)

-- what goes down: the connection is asked for, and given the request's text once
abbrev pub request_says : Said → AskParts → List Said
request_says m a =
    record { tag = stream_tag_number Begin; rec = m.rec; a = 0; b = 0; bytes = take 16 m.bytes } ∷
    record { tag = stream_tag_number Send; rec = m.rec; a = 0; b = 0; bytes = request_text a.host a.conn.peer_port a.path } ∷ []

-- what goes up: bytes of the body, where there are any, and then the text of a move
abbrev pub gives_says : ℕ → List ℕ → List Said
gives_says rec gave = if nat_lt 0 (length gave) then received_says rec gave ∷ [] else []

abbrev pub moves_says : ℕ → Option (List ℕ) → List Said
moves_says rec None = []
moves_says rec (Some text) = record { tag = 10; rec = rec; a = 0; b = 0; bytes = text } ∷ []

-- the text of the move that a call ended it with
abbrev pub moved_at_end : Option Cause → Core → Option (List ℕ)
moved_at_end None c = None
moved_at_end (Some cause) c = moved_text c.head c.state

-- An entry with the message m asks for this: downs leave by slot 1 and ups by slot 0, and these ports are closed.
pub record WebEffects {N L : Type 0} (k : WebCarrier L) (m : Said) (asked given : List Said) (shut : List (ℕ × Cause)) (fx : Fx N L) : Type 0 where
  pub no_make : fx.makes ≡ None
  pub downs : web_say k m fx.downs ≡ asked
  pub below : AllByRecursion GoesBelow (emits_of fx.downs)
  pub ups : web_say k m fx.ups ≡ given
  pub above : AllByRecursion GoesAbove (emits_of fx.ups)
  pub closes : fx.closes.items ≡ shut

-- what waits in a core's block, and what goes up of a body by a call
abbrev pub block_body : List ℕ → Option Body
block_body block = if nat_lt 0 (length block) then Some (Block block) else None

abbrev pub body_for : Option (ℕ × ℕ) → List ℕ → Option Body
body_for None block = block_body block
body_for (Some r) block = Some (Range r.0 r.1)

-- the messages that are asked for
abbrev pub body_emit : {L : Type 0} → WebCarrier L → Body → Emit L
body_emit k (Range from to) = record { slot = 0; tag = stream_tag_number Received; a = 0; b = 0; from = from; to = to; load = None }
body_emit k (Block text) = record { slot = 0; tag = stream_tag_number Received; a = 0; b = 0; from = 0; to = 0; load = Some (k.as_load text) }

abbrev pub moved_emit : {L : Type 0} → WebCarrier L → List ℕ → Emit L
moved_emit k text = record { slot = 0; tag = 10; a = 0; b = 0; from = 0; to = 0; load = Some (k.as_load text) }

abbrev pub begin_emit : {L : Type 0} → Emit L
begin_emit = record { slot = 1; tag = stream_tag_number Begin; a = 0; b = 0; from = 0; to = 16; load = None }

abbrev pub send_emit : {L : Type 0} → WebCarrier L → List ℕ → Emit L
send_emit k text = record { slot = 1; tag = stream_tag_number Send; a = 0; b = 0; from = 0; to = 0; load = Some (k.as_load text) }

-- the ups are these messages, in this order
abbrev pub AnswersUp : {L : Type 0} → WebCarrier L → Option Body → Option (List ℕ) → Few (Emit L) → Type 0
AnswersUp k None None f = (f.first ≡ None) × (f.second ≡ None)
AnswersUp k (Some body) None f = (f.first ≡ Some (body_emit k body)) × (f.second ≡ None)
AnswersUp k None (Some text) f = (f.first ≡ Some (moved_emit k text)) × (f.second ≡ None)
AnswersUp k (Some body) (Some text) f = (f.first ≡ Some (body_emit k body)) × (f.second ≡ Some (moved_emit k text))

-- the downs ask for the connection and give it the text
abbrev pub AsksBelow : {L : Type 0} → WebCarrier L → List ℕ → Few (Emit L) → Type 0
AsksBelow k text f = (f.first ≡ Some begin_emit) × (f.second ≡ Some (send_emit k text))
