-- What a transfer's call asks for, as the effects of an entry, and what an entry's effects send: our own.
use Rattle.std.specs.Prelude.{◌≡◌, ℕ, List, [], ◌∷◌, ◌++◌, map, Option, Some, None}
use Rattle.std.specs.List.{AllByRecursion}
use Rattle.nb_terms.specs.declared.acts.Acts.{Acts}
use Rattle.nb_terms.specs.declared.acts.SendTo.{SendTo}
use Rattle.nb_terms.specs.declared.cause.Cause.{Cause}
use Rattle.nb_effects.specs.declared.effects.Emit.{Emit}
use Rattle.nb_effects.specs.declared.effects.Few.{Few}
use Rattle.nb_effects.specs.declared.effects.Fx.{Fx}
use Rattle.nb_graph.specs.Trace.{Said, in_list}
use Rattle.nb_graph.specs.Deeds.{said_of}
use Rattle.nb_graph.specs.Effects.{AreDowns, AreUps, AreCloseSlots}
use Rattle.std.specs.Global.{Box}
use Rattle.nb_nodes.specs.declared.load.Load.{Load}
use Rattle.nb_nodes.specs.declared.load.Load.TheVariants as load
use Rattle.nb_nodes.specs.declared.obj.Obj.{Obj}
use Rattle.nb_nodes.specs.declared.tag.Tag.{Tag}
use Rattle.nb_nodes.specs.declared.tag.Tag.TheVariants.{Datagram, Try, Advance, Bytes}
use Rattle.nb_nodes.specs.Tags.{tag_number}
use Rattle.nb_nodes.specs.Objects.{obj_nature}

-- the messages that an entry asks for, in order
abbrev pub emits : Few (Emit Load) → List (Emit Load)
emits f = in_list f.first ++ in_list f.second

-- what they say, where the entry has the message m
abbrev pub said_all : Said → Few (Emit Load) → List Said
said_all m f = map (said_of obj_nature m) (emits f)

-- the place has grown
abbrev pub advance_said : ℕ → Option ℕ → List Said
advance_said rec None = []
advance_said rec (Some place) = record { tag = tag_number Advance; rec = rec; a = place; b = 0; bytes = [] } ∷ []

-- where a timer covers a datagram, it is a try with a number
abbrev pub try_tag : Option ℕ → Tag
try_tag None = Datagram
try_tag (Some n) = Try

abbrev pub try_number : Option ℕ → ℕ
try_number None = 0
try_number (Some n) = n

abbrev pub datagram_said : ℕ → Option ℕ → SendTo → Said
datagram_said rec tried send = record { tag = tag_number (try_tag tried); rec = rec; a = try_number tried; b = send.to_port; bytes = send.body.items }

-- what goes down: first that the place has grown, then the datagram
abbrev pub downs_of : ℕ → Acts → List Said
downs_of rec acts = advance_said rec acts.advance ++ map (datagram_said rec acts.tried) acts.sends.items

-- what goes up: a range of the message's bytes, by slot 0
abbrev pub up_emit : Option (ℕ × ℕ) → Option (Emit Load)
up_emit None = None
up_emit (Some range) = Some (record { slot = 0; tag = tag_number Bytes; a = 0; b = 0; from = range.0; to = range.1; load = None })

abbrev pub advance_emit : ℕ → Emit Load
advance_emit place = record { slot = 1; tag = tag_number Advance; a = place; b = 0; from = 0; to = 0; load = None }

-- a datagram lies in what the transfer fills, which is lent
abbrev pub datagram_emit : ℕ → Box Acts → Emit Load
datagram_emit port acts = record { slot = 1; tag = tag_number (try_tag acts.value.tried); a = try_number acts.value.tried; b = port; from = 0; to = 0; load = Some (load.Datagram acts) }

-- slots 0 and 1 are closed, the one above first
abbrev pub both_closes : Cause → List (ℕ × Cause)
both_closes cause = (0, cause) ∷ (1, cause) ∷ []

abbrev pub end_closes : Option Cause → List (ℕ × Cause)
end_closes None = []
end_closes (Some cause) = both_closes cause

abbrev pub LeavesByOne : Emit Load → Type 0
LeavesByOne e = e.slot ≡ 1

-- the port that the first message goes to
abbrev pub first_port : List SendTo → Option ℕ
first_port [] = None
first_port (send ∷ sends) = Some send.to_port

-- the downs are what goes down
pub record AsksDown (acts : Acts) (f : Few (Emit Load)) : Type 0 where
  pub said : (m : Said) → said_all m f ≡ downs_of m.rec acts
  pub by_one : AllByRecursion LeavesByOne (emits f)
  pub within : (len : ℕ) → AreDowns len f

-- the effects of an entry with the message m are what a transfer's call asks for: downs by slot 1, ups, and at its end
-- the closes of slots 0 and 1 with its cause
pub record EffectsOf (m : Said) (acts : Acts) (fx : Fx Obj Load) : Type 0 where
  pub no_make : fx.makes ≡ None
  pub downs : said_all m fx.downs ≡ downs_of m.rec acts
  pub by_one : AllByRecursion LeavesByOne (emits fx.downs)
  pub ups : fx.ups ≡ record { first = up_emit acts.give; second = None }
  pub closes : fx.closes.items ≡ end_closes acts.over

-- no message and no make
pub record CarriesNothing (fx : Fx Obj Load) : Type 0 where
  pub no_make : fx.makes ≡ None
  pub no_down : fx.downs.first ≡ None
  pub no_downs : fx.downs.second ≡ None
  pub no_up : fx.ups.first ≡ None
  pub no_ups : fx.ups.second ≡ None

-- nor a close
abbrev pub AsksNone : Fx Obj Load → Type 0
AsksNone fx = CarriesNothing fx × (fx.closes.items ≡ [])

-- what an entry may ask for, whose message has so many bytes
pub record AsksWithin (len : ℕ) (fx : Fx Obj Load) : Type 0 where
  pub no_make : fx.makes ≡ None
  pub downs : AreDowns len fx.downs
  pub ups : AreUps len fx.ups
  pub closes : AreCloseSlots fx.closes.items
