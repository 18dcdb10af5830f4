-- What an entry of an object may ask for, and that it keeps its mark.
use Rattle.std.proofs.Common.{◌≡◌, ℕ, ◌+◌, ◌==◌, ◌&&◌, Bool, true, false, List, ◌++◌, length, nat_lt, Option, Some, None, if◌then◌else◌, refl, ap, ◌∙◌}
use Rattle.std.specs.Prelude.{IfSome, Result, Ok, Err, OnOk, OnErr}
use Rattle.std.specs.declared.alloc.Global.{Global}
use Rattle.nb_terms.specs.declared.cause.Cause.{Cause}
use Rattle.nb_effects.specs.declared.effects.Make.{Make}
use Rattle.nb_effects.specs.declared.effects.Fx.{Fx}
use Rattle.nb_graph.specs.Effects.{IsMake, IsNothing, MayAsk}
use Rattle.nb_nodes.specs.declared.fetch.Fetch.{Fetch}
use Rattle.nb_nodes.specs.declared.fetch.Fetch.TheVariants.{Gathering, Whole, HandedOut, Moved, Failed}
use Rattle.nb_nodes.specs.declared.load.Load.{Load}
use Rattle.nb_nodes.specs.declared.obj.Obj.{Obj}
use Rattle.nb_nodes.specs.declared.obj.Obj.TheVariants as obj
use Rattle.nb_nodes.specs.Objects.{rank_of_obj, mark_of_obj, is_handed}
use Rattle.nb_nodes.specs.Fetches.{is_gathering, brings_move, after_bytes_up, after_move, after_up, after_closing}
use Rattle.nb_graph.specs.Trace.{Said}
use Rattle.nb_nodes.specs.Carried.{AsksNone, AsksWithin}
use Rattle.nb_nodes.specs.Standing.{ObjStands}

none_made : (r : ℕ) (x : Option (Make Obj)) → x ≡ None → IfSome x (IsMake rank_of_obj ObjStands r)
none_made r None h = tt
none_made r (Some m) h = absurd (let z = h in cc)

pub may_ask : (r len : ℕ) (fx : Fx Obj Load) → AsksWithin len fx → MayAsk rank_of_obj ObjStands r len fx
may_ask r len fx asks = record { make = none_made r fx.makes asks.no_make; downs = asks.downs; ups = asks.ups; closes = asks.closes }

pub blank : (fx : Fx Obj Load) → IsNothing fx → AsksNone fx
blank fx h = (record { no_make = h.0; no_down = h.1; no_downs = h.2; no_up = h.3; no_ups = h.4 }, h.5)

-- a Fetch hands nothing out by a message from below, or by a close
up_handed : (al : Global) (one big : Bool) (b c : List ℕ) → is_handed (if one then (if big then Failed else Gathering c al) else Gathering b al) ≡ false
up_handed al true true b c = refl
up_handed al true false b c = refl
up_handed al false big b c = refl

handed_up : (f : Fetch) (slot : ℕ) (bytes : List ℕ) → is_handed (after_bytes_up f slot bytes) ≡ is_handed f
handed_up (Gathering b al) slot bytes = up_handed al (slot == 1) (nat_lt 268435456 (length b + length bytes)) b (b ++ bytes)
handed_up (Whole b) slot bytes = refl
handed_up HandedOut slot bytes = refl
handed_up (Moved u) slot bytes = refl
handed_up Failed slot bytes = refl

handed_move : (f : Fetch) (bytes : List ℕ) → is_handed (after_move f bytes) ≡ is_handed f
handed_move (Gathering b al) bytes = refl
handed_move (Whole b) bytes = refl
handed_move HandedOut bytes = refl
handed_move (Moved u) bytes = refl
handed_move Failed bytes = refl

handed_by : (move : Bool) (f : Fetch) (slot : ℕ) (bytes : List ℕ) → is_handed (if move then after_move f bytes else after_bytes_up f slot bytes) ≡ is_handed f
handed_by true f slot bytes = handed_move f bytes
handed_by false f slot bytes = handed_up f slot bytes

failed_handed : (f : Fetch) → is_gathering f ≡ true → is_handed Failed ≡ is_handed f
failed_handed (Gathering b al) h = refl
failed_handed (Whole b) h = refl
failed_handed HandedOut h = absurd (let z = h in cc)
failed_handed (Moved u) h = refl
failed_handed Failed h = refl

close_handed : (al : Global) (one ok : Bool) (b : List ℕ) → is_handed (if one then (if ok then Whole b else Failed) else Gathering b al) ≡ false
close_handed al true true b = refl
close_handed al true false b = refl
close_handed al false ok b = refl

handed_closed : (f : Fetch) (slot : ℕ) (cause : Cause) → is_handed (after_closing f slot cause) ≡ is_handed f
handed_closed (Gathering b al) slot cause = close_handed al (nat_lt slot 2) ((slot == 1) && (cause.code == 0)) b
handed_closed (Whole b) slot cause = refl
handed_closed HandedOut slot cause = refl
handed_closed (Moved u) slot cause = refl
handed_closed Failed slot cause = refl

pub mark_closed : (f g : Fetch) (slot : ℕ) (cause : Cause) → g ≡ after_closing f slot cause → mark_of_obj (obj.Fetch g) ≡ mark_of_obj (obj.Fetch f)
mark_closed f g slot cause e = ap (λ (b : Bool). if b then 1 else 0) (ap is_handed e ∙ handed_closed f slot cause)

pub mark_up : {U E : Type 0} (r : Result U E) (f g : Fetch) (slot : ℕ) (m : Said) → OnOk r (g ≡ after_up f slot m) → OnErr r ((is_gathering f ≡ true) × (g ≡ Failed)) → mark_of_obj (obj.Fetch g) ≡ mark_of_obj (obj.Fetch f)
mark_up (Ok u) f g slot m after failed = ap (λ (b : Bool). if b then 1 else 0) (ap is_handed after ∙ handed_by (brings_move slot m) f slot m.bytes)
mark_up (Err e) f g slot m after failed = ap (λ (b : Bool). if b then 1 else 0) (ap is_handed failed.1 ∙ failed_handed f failed.0)
