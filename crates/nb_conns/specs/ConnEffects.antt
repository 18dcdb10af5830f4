-- What an entry of a connection's object asks for: our own.
use Rattle.std.specs.Prelude.{◌≡◌, ℕ, Bool, List, [], ◌∷◌, ◌++◌, length, min, map, Option, Some, None, if◌then◌else◌}
use Rattle.std.specs.List.{AllByRecursion}
use Rattle.nb_terms.specs.declared.acts.Acts.{Acts}
use Rattle.nb_terms.specs.declared.acts.SendTo.{SendTo}
use Rattle.nb_terms.specs.declared.cause.Cause.{Cause}
use Rattle.nb_effects.specs.declared.effects.Emit.{Emit}
use Rattle.nb_effects.specs.declared.effects.Few.{Few}
use Rattle.nb_effects.specs.declared.effects.Fx.{Fx}
use Rattle.nb_graph.specs.Trace.{Said, in_list, carries, loads, lent, Nature}
use Rattle.nb_graph.specs.Effects.{AreDowns, AreUps, AreCloseSlots}
use Rattle.std.specs.Global.{Box}
use Rattle.nb_conns.specs.declared.asking.Heading.{Heading}
use Rattle.nb_conns.specs.declared.conn_load.ConnLoad.TheVariants.{Segments, Window}
use Rattle.nb_conns.specs.declared.conn_load.Lent.{Lent}
use Rattle.nb_conns.specs.declared.stream_tag.StreamTag.{StreamTag}
use Rattle.nb_conns.specs.declared.stream_tag.StreamTag.TheVariants.{Segment, TriedSegment, Place, Received, End, TwoSegments}
use Rattle.nb_conns.specs.StreamTags.{stream_tag_number}
use Rattle.nb_conns.specs.ConnLoads.{Carrier, windows_in, lent_bytes, first_sent}

-- the messages that an entry asks for, in order
abbrev pub emits_of : {L : Type 0} → Few (Emit L) → List (Emit L)
emits_of f = in_list f.first ++ in_list f.second

-- the bytes of a load, as nb_graph knows them
abbrev pub carrier_nature : {L : Type 0} → Carrier L → Nature L L
carrier_nature k = record { kind = λ _. 0; mark = λ _. 0; bytes = k.load_bytes }

-- what one says, where the entry has the message m
abbrev pub emit_says : {L : Type 0} → Carrier L → Said → Emit L → Said
emit_says k m e = record { tag = e.tag; rec = m.rec; a = e.a; b = e.b; bytes = carries (carrier_nature k) m.bytes e.from e.to e.load }

abbrev pub few_say : {L : Type 0} → Carrier L → Said → Few (Emit L) → List Said
few_say k m f = map (emit_says k m) (emits_of f)

-- the place has grown
abbrev pub place_says : ℕ → Option ℕ → List Said
place_says rec None = []
place_says rec (Some place) = record { tag = stream_tag_number Place; rec = rec; a = place; b = 0; bytes = [] } ∷ []

-- one segment, as a try where a timer covers it, or two, of which the last is that
abbrev pub segments_tag : Option ℕ → List SendTo → StreamTag
segments_tag None [] = Segment
segments_tag (Some n) [] = TriedSegment
segments_tag tried (send ∷ sends) = TwoSegments

abbrev pub tried_number : Option ℕ → ℕ
tried_number None = 0
tried_number (Some n) = n

abbrev pub segments_number : SendTo → List SendTo → ℕ
segments_number first [] = first.to_port
segments_number first (send ∷ sends) = length first.body.items

abbrev pub segments_say : ℕ → Option ℕ → List SendTo → List Said
segments_say rec tried [] = []
segments_say rec tried (first ∷ rest) =
    record { tag = stream_tag_number (segments_tag tried rest); rec = rec; a = tried_number tried; b = segments_number first rest; bytes = first.body.items ++ first_sent rest } ∷ []

-- what goes down: first that the place has grown, then the segments
abbrev pub downs_for : ℕ → Acts → List Said
downs_for rec acts = place_says rec acts.advance ++ segments_say rec acts.tried acts.sends.items

-- what goes up: the next bytes of the stream, and at its end that it has come
abbrev pub received_says : ℕ → List ℕ → Said
received_says rec bytes = record { tag = stream_tag_number Received; rec = rec; a = 0; b = 0; bytes = bytes }

abbrev pub end_says : ℕ → Bool → List Said
end_says rec ends = if ends then record { tag = stream_tag_number End; rec = rec; a = 0; b = 0; bytes = [] } ∷ [] else []

abbrev pub ups_for : ℕ → Option Lent → Bool → List Said
ups_for rec None ends = end_says rec ends
ups_for rec (Some window) ends = received_says rec (lent_bytes window) ∷ end_says rec ends

-- slots 0 and 1 are closed at an end, the one above first
abbrev pub closes_for : Option Cause → List (ℕ × Cause)
closes_for None = []
closes_for (Some cause) = (0, cause) ∷ (1, cause) ∷ []

abbrev pub GoesBelow : {L : Type 0} → Emit L → Type 0
GoesBelow e = e.slot ≡ 1

abbrev pub GoesAbove : {L : Type 0} → Emit L → Type 0
GoesAbove e = e.slot ≡ 0

-- the downs are what a call's segments and its place ask for; they lend no window
pub record SendsDown {L : Type 0} (k : Carrier L) (acts : Acts) (f : Few (Emit L)) : Type 0 where
  pub says : (m : Said) → few_say k m f ≡ downs_for m.rec acts
  pub below : AllByRecursion GoesBelow (emits_of f)
  pub within : (len : ℕ) → AreDowns len f
  pub windows : windows_in k (loads f) ≡ []

-- the ups are what was lent, and the end
pub record GivesBack {L : Type 0} (k : Carrier L) (window : Option Lent) (ends : Bool) (f : Few (Emit L)) : Type 0 where
  pub says : (m : Said) → few_say k m f ≡ ups_for m.rec window ends
  pub above : AllByRecursion GoesAbove (emits_of f)
  pub within : (len : ℕ) → AreUps len f
  pub windows : windows_in k (loads f) ≡ in_list window

-- An entry with the message m asks for this: segments and the place go down by slot 1, ups go by slot 0, these ports
-- are closed, and this window is lent.
pub record ConnEffects {N L : Type 0} (k : Carrier L) (m : Said) (acts : Acts) (given : List Said) (shut : List (ℕ × Cause)) (out : List Lent) (fx : Fx N L) : Type 0 where
  pub no_make : fx.makes ≡ None
  pub downs : few_say k m fx.downs ≡ downs_for m.rec acts
  pub below : AllByRecursion GoesBelow (emits_of fx.downs)
  pub ups : few_say k m fx.ups ≡ given
  pub above : AllByRecursion GoesAbove (emits_of fx.ups)
  pub closes : fx.closes.items ≡ shut
  pub windows : windows_in k (lent fx) ≡ out

-- no message and no make
pub record SaysNothing {N L : Type 0} (fx : Fx N L) : Type 0 where
  pub no_make : fx.makes ≡ None
  pub no_down : fx.downs.first ≡ None
  pub no_downs : fx.downs.second ≡ None
  pub no_up : fx.ups.first ≡ None
  pub no_ups : fx.ups.second ≡ None

-- what an entry may ask for, whose message has so many bytes
pub record ConnWithin {N L : Type 0} (len : ℕ) (fx : Fx N L) : Type 0 where
  pub no_make : fx.makes ≡ None
  pub downs : AreDowns len fx.downs
  pub ups : AreUps len fx.ups
  pub closes : AreCloseSlots fx.closes.items

-- an entry by a message from below takes all of it
abbrev pub TookAll : {N L : Type 0} → Said → Fx N L → Type 0
TookAll m fx = fx.took ≡ min (length m.bytes) 4294967295

-- the messages that are asked for
abbrev pub place_emit : {L : Type 0} → ℕ → Emit L
place_emit place = record { slot = 1; tag = stream_tag_number Place; a = place; b = 0; from = 0; to = 0; load = None }

abbrev pub heading_of : List SendTo → Option ℕ → Option Heading
heading_of [] tried = None
heading_of (first ∷ rest) tried = Some (record { tag = segments_tag tried rest; a = tried_number tried; b = segments_number first rest })

abbrev pub segments_emit : {L : Type 0} → Carrier L → Heading → Box Acts → Emit L
segments_emit k h acts = record { slot = 1; tag = stream_tag_number h.tag; a = h.a; b = h.b; from = 0; to = 0; load = Some (k.as_load (Segments acts)) }

abbrev pub received_emit : {L : Type 0} → Carrier L → Box Lent → Emit L
received_emit k window = record { slot = 0; tag = stream_tag_number Received; a = 0; b = 0; from = 0; to = 0; load = Some (k.as_load (Window window)) }

-- the bytes that go up stand in the message
abbrev pub range_emit : {L : Type 0} → (from to : ℕ) → Emit L
range_emit from to = record { slot = 0; tag = stream_tag_number Received; a = 0; b = 0; from = from; to = to; load = None }

abbrev pub end_emit : {L : Type 0} → Emit L
end_emit = record { slot = 0; tag = stream_tag_number End; a = 0; b = 0; from = 0; to = 0; load = None }

abbrev pub boxed : Option (Box Lent) → Option Lent
boxed None = None
boxed (Some window) = Some window.value
