-- Where the entries of a logical unit lead.
use Rattle.std.proofs.Common.{◌≡◌, ℕ, ◌==◌, ◌&&◌, ◌||◌, ◌<◌, ◌≤◌, Bool, true, false, not, List, [], ◌∷◌, ◌++◌, nat_lt, Option, Some, None, refl, ap, sym, ◌∙◌, subst, arith}
use Rattle.std.proofs.lemmas.Bool.{lt-ltb, le-ltb, false≢true, ne_eqb, eqb-true}
use Rattle.std.specs.Option.{is_some}
use Rattle.nb_terms.specs.declared.cause.Cause.{Cause}
use Rattle.nb_effects.specs.declared.effects.Fx.{Fx}
use Rattle.nb_graph.specs.Trace.{Said, NodeEntry, up, down, closed, regain}
use Rattle.nb_effects.specs.declared.effects.Emit.{Emit}
use Rattle.nb_graph.specs.Effects.{IsDown, IsUp, AreCloseSlots}
use Rattle.std.specs.Prelude.{IfSome}
use Rattle.std.proofs.lemmas.Option.{none-some}
use Rattle.nb_conns.specs.ConnEffects.{ConnWithin, SaysNothing}
use Rattle.nb_conns.specs.Dialogues.{AsksIdly, HandsOnClose}
use Rattle.nb_disk.specs.Histories.{SessionNumbers, DiskCall}
use Rattle.nb_disk.specs.DiskAnswers.{session_has_ended}
use Rattle.nb_disk.specs.DiskStands.{DiskStands}
use Rattle.nb_disk.specs.Steps.{KeptNumbers}
use Rattle.nb_drivenodes.specs.declared.unit_stage.UnitStage.{UnitStage}
use Rattle.nb_drivenodes.specs.declared.unit_stage.UnitStage.TheVariants.{Unasked, Waiting, Working, Ended}
use Rattle.nb_drivenodes.specs.declared.logical_unit.LogicalUnit.{LogicalUnit}
use Rattle.nb_drivenodes.specs.SessionNotes.{note_in}
use Rattle.nb_drivenodes.specs.DriveEffects.{TextCarrier}
use Rattle.nb_drivenodes.specs.UnitTalks.{UnitTalk, unit_unasked, unit_cut, unit_lives, tagged_below, pdu_in, takes_blocks, is_quiet_unit, is_cut_unit, UnitTalks, unit_ends, unit_rests, UnitTalksTo, IsUnitAt, before_asking, while_waiting, while_working, once_over, once_unit_cut, UnitStands, UnitOn, IsUnaskedUnit, stage_is_ended_unit}

-- an entry that calls nothing
pub unit-rests : {N L : Type 0} (k : TextCarrier L) (w : UnitStage) (e : NodeEntry N L) → ((d : UnitTalk) → IsUnitAt w d → is_quiet_unit d e ≡ true) → AsksIdly e → UnitOn k w w e
unit-rests k w e quiet asks = λ d at. (d, unit_rests d e (quiet d at) asks, at)

-- one that ends it
pub unit-cuts : {N L : Type 0} (k : TextCarrier L) (w new : UnitStage) (e : NodeEntry N L) → new ≡ Ended → ((d : UnitTalk) → IsUnitAt w d → is_cut_unit d e ≡ true) → HandsOnClose e → UnitOn k w new e
unit-cuts k w new e o cut hands = subst (λ (z : UnitStage). UnitOn k w z e) (sym o) (λ d at. (unit_cut, unit_ends d e (cut d at) hands, once_unit_cut))

-- a message that comes to nothing
pub quiet-up-unit : {N L : Type 0} (w : UnitStage) (slot : ℕ) (m : Said) (now : ℕ) (fx : Fx N L) (d : UnitTalk) → (w ≡ Waiting → (tagged_below 11 slot m && is_some (note_in m.bytes)) ≡ false)
    → ((k : KeptNumbers) (c : ℕ) → w ≡ Working k c → ((tagged_below 12 slot m && is_some (pdu_in m.bytes)) || tagged_below 8 slot m) ≡ false) → IsUnitAt w d → is_quiet_unit d (up slot m now true fx) ≡ true
quiet-up-unit w slot m now fx _ h i before_asking = refl
quiet-up-unit w slot m now fx _ h i while_waiting = ap not (h refl)
quiet-up-unit w slot m now fx _ h i (while_working k o c calls stands on) = ap not (i k c refl)
quiet-up-unit w slot m now fx _ h i (once_over k o c calls over stands) = refl
quiet-up-unit w slot m now fx _ h i once_unit_cut = refl

pub and-off : (a : Bool) → (a && false) ≡ false
and-off true = refl
and-off false = refl

-- a message of this tag
pub tag-of : (tag slot : ℕ) (m : Said) → tagged_below tag slot m ≡ true → m.tag ≡ tag
tag-of tag slot m h = eqb-true m.tag tag (by (slot == 1) h)
  where
    by : (b : Bool) → (b && (m.tag == tag)) ≡ true → (m.tag == tag) ≡ true
    by true e = e
    by false e = absurd (false≢true e)

-- nothing is asked for
pub nothing-within : {N L : Type 0} (len : ℕ) (fx : Fx N L) → SaysNothing fx → fx.closes.items ≡ [] → ConnWithin len fx
nothing-within {N} {L} len fx s cl = record { no_make = s.no_make; downs = downs fx.downs.first fx.downs.second s.no_down s.no_downs; ups = ups fx.ups.first fx.ups.second s.no_up s.no_ups; closes = no_close fx.closes.items cl }
  where
    downs : (o p : Option (Emit L)) → o ≡ None → p ≡ None → (o ≡ None → p ≡ None) × IfSome o (IsDown len) × IfSome p (IsDown len) × IfSome o (λ e. IfSome p (λ d. d.slot ≡ e.slot))
    downs None None a b = ((λ _. refl), tt, tt, tt)
    downs None (Some y) a b = absurd (none-some y (sym b))
    downs (Some x) p a b = absurd (none-some x (sym a))

    ups : (o p : Option (Emit L)) → o ≡ None → p ≡ None → (o ≡ None → p ≡ None) × IfSome o (IsUp len) × IfSome p (IsUp len)
    ups None None a b = ((λ _. refl), tt, tt)
    ups None (Some y) a b = absurd (none-some y (sym b))
    ups (Some x) p a b = absurd (none-some x (sym a))

    no_close : (xs : List (ℕ × Cause)) → xs ≡ [] → AreCloseSlots xs
    no_close [] h i d below = absurd (omega arith)
    no_close (x ∷ xs) h i d below = absurd (let z = h in cc)

-- by another slot
pub off-slot : (tag slot : ℕ) (m : Said) → (slot ≡ 1 → ⊥) → tagged_below tag slot m ≡ false
off-slot tag slot m h = ap (λ z. z && (m.tag == tag)) (ne_eqb slot 1 h)

-- with another tag
pub off-tag : (tag slot : ℕ) (m : Said) → (m.tag ≡ tag → ⊥) → tagged_below tag slot m ≡ false
off-tag tag slot m h = ap (λ z. (slot == 1) && z) (ne_eqb m.tag tag h) ∙ and-off (slot == 1)

pub off-opened : (slot : ℕ) (m : Said) → tagged_below 11 slot m ≡ false → (tagged_below 11 slot m && is_some (note_in m.bytes)) ≡ false
off-opened slot m h = ap (λ z. z && is_some (note_in m.bytes)) h

pub off-served : (slot : ℕ) (m : Said) → tagged_below 12 slot m ≡ false → tagged_below 8 slot m ≡ false → ((tagged_below 12 slot m && is_some (pdu_in m.bytes)) || tagged_below 8 slot m) ≡ false
off-served slot m h i = ap (λ z. (z && is_some (pdu_in m.bytes)) || tagged_below 8 slot m) h ∙ i

pub quiet-down-unit : {N L : Type 0} (w : UnitStage) (m : Said) (now : ℕ) (fx : Fx N L) (d : UnitTalk) → (w ≡ Unasked → (m.tag == 1) ≡ false)
    → ((k : KeptNumbers) (c : ℕ) (o : SessionNumbers) (calls : List DiskCall) → w ≡ Working k c → DiskStands o calls k → session_has_ended o calls ≡ false → ((m.tag == 13) && takes_blocks o calls m.a m.b) ≡ false) → IsUnitAt w d → is_quiet_unit d (down m now true fx) ≡ true
quiet-down-unit w m now fx _ h i before_asking = ap not (h refl)
quiet-down-unit w m now fx _ h i while_waiting = refl
quiet-down-unit w m now fx _ h i (while_working k o c calls stands on) = ap not (i k c o calls refl stands on)
quiet-down-unit w m now fx _ h i (once_over k o c calls over stands) = refl
quiet-down-unit w m now fx _ h i once_unit_cut = refl

not-and : (a b : Bool) → b ≡ false → not (a && b) ≡ true
not-and true b h = ap not h
not-and false b h = refl

pub quiet-slot-unit : {N L : Type 0} (slot : ℕ) (cause : Cause) (now : ℕ) (fx : Fx N L) (d : UnitTalk) → 1 < slot → is_quiet_unit d (closed slot cause now fx) ≡ true
quiet-slot-unit slot cause now fx d h = not-and (unit_lives d) (nat_lt slot 2) (le-ltb slot 2 (omega (arith, h)))

ended-at : (w : UnitStage) (d : UnitTalk) → IsUnitAt w d → not (stage_is_ended_unit w) ≡ unit_lives d
ended-at _ _ before_asking = refl
ended-at _ _ while_waiting = refl
ended-at _ _ (while_working k o c calls stands on) = refl
ended-at _ _ (once_over k o c calls over stands) = refl
ended-at _ _ once_unit_cut = refl

pub quiet-ended-unit : {N L : Type 0} (w : UnitStage) (slot : ℕ) (cause : Cause) (now : ℕ) (fx : Fx N L) (d : UnitTalk) → stage_is_ended_unit w ≡ true → IsUnitAt w d → is_quiet_unit d (closed slot cause now fx) ≡ true
quiet-ended-unit w slot cause now fx d h at = ap (λ z. not (z && nat_lt slot 2)) (sym (ended-at w d at) ∙ ap not h)

-- a close that ends it
pub cut-close-unit : {N L : Type 0} (w : UnitStage) (slot : ℕ) (cause : Cause) (now : ℕ) (fx : Fx N L) (d : UnitTalk) → slot ≤ 1 → stage_is_ended_unit w ≡ false → IsUnitAt w d → is_cut_unit d (closed slot cause now fx) ≡ true
cut-close-unit w slot cause now fx d l h at = ap (λ z. z && nat_lt slot 2) (sym (ended-at w d at) ∙ ap not h) ∙ lt-ltb slot 2 (omega (arith, l))

-- the entries of a longer trace
talks-more : {N L : Type 0} (k : TextCarrier L) (d f g : UnitTalk) (t : List (NodeEntry N L)) (e : NodeEntry N L) → UnitTalksTo k d t f → UnitTalks k f e g → UnitTalksTo k d (t ++ e ∷ []) g
talks-more k d f g [] e run goes = (g, subst (λ (z : UnitTalk). UnitTalks k z e g) (sym run) goes, refl)
talks-more k d f g (x ∷ t) e run goes = (run.0, run.1, talks-more k run.0 f g t e run.2 goes)

pub unit-stands-on : {N L : Type 0} (k : TextCarrier L) (p q : LogicalUnit) (t : List (NodeEntry N L)) (e : NodeEntry N L) → UnitOn k p.stage q.stage e → UnitStands k p t → UnitStands k q (t ++ e ∷ [])
unit-stands-on k p q t e goes s =
    let g = goes s.talk s.at in
    record { talk = g.0; run = talks-more k unit_unasked s.talk g.0 t e s.run g.1; at = g.2 }

-- one that wasn't asked for stands for the empty trace
pub unit-stands-anew : {N L : Type 0} (k : TextCarrier L) (p : LogicalUnit) → IsUnaskedUnit p → UnitStands {N = N} k p []
unit-stands-anew k p e = record { talk = unit_unasked; run = refl; at = subst (λ (z : UnitStage). IsUnitAt z unit_unasked) (sym e) before_asking }

-- a load that comes back
pub unit-has-back : {N L : Type 0} (k : TextCarrier L) (p : LogicalUnit) (t : List (NodeEntry N L)) (load : L) → UnitStands k p t → UnitStands k p (t ++ regain load ∷ [])
unit-has-back {N} {L} k p t load s =
    let entry : NodeEntry N L = regain load in
    unit-stands-on k p p t entry (unit-rests k p.stage entry (λ d at. refl) tt) s
