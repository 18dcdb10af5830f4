-- An open begins beside the top object of another, which waits for it.
use Rattle.std.proofs.Common.{◌≡◌, ◌⊎◌, inl, inr, ℕ, ◌<◌, ◌≤◌, Bool, true, false, [], ◌∷◌, ◌++◌, Some, None, refl, ◌∙◌, ap, subst, arith}
use Rattle.nb_ledger.specs.Flat.{Given, Heard}
use Rattle.nb_ledger.specs.Ledger.{run_state}
use Rattle.nb_ledger.proofs.RunLemmas.{Given-append}
use Rattle.nb_graph.specs.Whole.{Objects}
use Rattle.nb_frames.specs.Frames.{is_one_of}
use Rattle.nb_nodes.specs.declared.obj.Obj.{Obj}
use Rattle.nb_stack.specs.Client.{Client}
use Rattle.nb_machine.specs.Lives.{kind_number}
use Rattle.nb_chains.specs.declared.chain.Chain.{Chain}
use Rattle.nb_chains.specs.declared.kind.ChainKind.{ChainKind}
use Rattle.nb_chains.specs.Chains.{chain_ids, below_ids, waits_notices}
use Rattle.nb_chains.specs.Kinds.{top_number}
use Rattle.nb_chains.proofs.FreshOnes.{fresh_kept, sole_is}
use Rattle.nb_chains.proofs.GoingOn.{keeps_both}
use Rattle.nb_teller.specs.declared.speaker.Speaker.{Speaker}
use Rattle.nb_teller.specs.declared.teller.Teller.{Teller}
use Rattle.nb_teller.specs.Spelling.{IsBlank, IsSpelled, IsWholeSpelling, Spelling}
use Rattle.nb_teller.proofs.Tellers.{told_is}
use Rattle.nb_open.specs.declared.beginning.Begun.{Begun}
use Rattle.nb_open.specs.declared.open.Open.{Open}
use Rattle.nb_open.specs.declared.opening.Opening.{Opening}
use Rattle.nb_open.specs.Begins.{BeginsBeside, LeavesBeside, LeavesElse, MakesObjects}
use Rattle.nb_open.specs.Making.{MakesObjectsOf, StartsOpen, WaitsNew}
use Rattle.nb_open.specs.Objects.{objects_ids}
use Rattle.nb_open.specs.Open.{objects_pieces, pieces_below, pieces_of}
use Rattle.nb_open.specs.Opening.{chain_kind, kind_by, speaker_for}
use Rattle.nb_open.specs.Settling.{told_so_far}
use Rattle.nb_open.proofs.BeginningSo.{asked_from}
use Rattle.nb_open.proofs.LeavingElse.{leaves_else, objects_grown}
use Rattle.nb_open.proofs.Newest.{run_is}
use Rattle.nb_open.proofs.ObjectsMade.{MadeFor, making_told, makes_after, objects_made, top_events}

either_way : (b : Bool) → (b ≡ true) ⊎ (b ≡ false)
either_way true = inl refl
either_way false = inr refl

module _ (kind : ChainKind) (a : Opening) (w : Chain) (o : Open) (old first mid : Objects Obj) (m k n : Heard) (waits : WaitsNew kind w old first m k) (made : MadeFor a None o.objects first mid k n) where
  pub both_given : Given m n (waits_notices kind w.top.0 ++ making_told None o.objects)
  both_given = Given-append m k n (waits_notices kind w.top.0) (making_told None o.objects) waits.gives.given made.given

  pub makes_beside : (net : Client) (who : Speaker) (s : Spelling) → IsSpelled net who s (waits_notices kind w.top.0 ++ making_told None o.objects) → MakesObjects (pieces_of kind w) (chain_kind a) (kind_number (kind_by a)) None o old s (run_state mid.book [])
  makes_beside net who s spelled =
      let top = top_events w.top.0 (top_number kind) in
      makes_after a None o old first mid k n made (pieces_of kind w) top (waits_notices kind w.top.0) net who s refl (tt, (tt, tt)) (run_is _ old first m k (waits_notices kind w.top.0) top refl waits.gives)
      (ap (λ z. (record { serial = w.top.0; kind = top_number kind } ∷ pieces_below z) ++ objects_pieces o.objects) waits.waits.alone ∙ ap (λ z. record { serial = w.top.0; kind = top_number kind } ∷ z) (made.pieces tt))
      (λ latest. tt) spelled

module _ (kind : ChainKind) (w : Chain) (b : Begun) (old first new : Objects Obj) (m k : Heard) (waits : WaitsNew kind w old first m k) (else' : LeavesElse None b first new) where
  is_later : (y : ℕ) → is_one_of (objects_ids b.«open».objects) y ≡ true → first.book.made < y
  is_later y own = elim (split y) [ inl h ↦ absurd (let f = else'.fresh y own h in let no : None ≡ Some f.0 = f.1 in cc) | inr h ↦ h ]
    where
      split : (y : ℕ) → (y ≤ first.book.made) ⊎ (first.book.made < y)
      split y = grind arith

  is_other : (y : ℕ) → y ≤ first.book.made → is_one_of (objects_ids b.«open».objects) y ≡ false
  is_other y low = elim (either_way (is_one_of (objects_ids b.«open».objects) y)) [ inl h ↦ absurd (omega (arith, is_later y h, low)) | inr h ↦ h ]

  not_top : (y : ℕ) → y ≤ old.book.made → is_one_of (chain_ids w) y ≡ false
  not_top y low = elim (either_way (is_one_of (chain_ids w) y)) [ inl h ↦ absurd (let e = sole_is w.top.0 y (subst (λ z. is_one_of (w.top.0 ∷ below_ids z) y ≡ true) waits.waits.alone h) in omega (arith, e, waits.serial, low)) | inr h ↦ h ]

  pub leaves_beside : LeavesBeside kind w b old new
  leaves_beside = record {
    waits = record { alone = waits.waits.alone; fresh = fresh_kept first new w.top.0 _ _ waits.waits.fresh (else'.others w.top.0 waits.waits.fresh.given (is_other w.top.0 waits.waits.fresh.given)) else'.later };
    first = waits.serial;
    after = λ y own. omega (arith, is_later y own, waits.serial, waits.grows.made);
    same_room = else'.same_room ∙ waits.grows.same_room;
    few = omega (arith, else'.few, waits.grows.made);
    later = omega (arith, else'.later, waits.grows.made);
    number = omega (arith, else'.number, waits.grows.number);
    others = λ y low. keeps_both old first new y (waits.grows.others y low (not_top y low)) (else'.others y (omega (arith, low, waits.grows.made)) (is_other y (omega (arith, low, waits.grows.made))));
  }

pub begins_beside : (kind : ChainKind) (a : Opening) (number now : ℕ) (link : Client) (old first mid new : Objects Obj) (before between last : Teller) (made told : Spelling) (w : Chain) (b : Begun) → b.«open».speaker ≡ speaker_for a number →
    WaitsNew kind w old first (told_so_far before) (told_so_far between) → MakesObjectsOf a None b.«open».objects first mid (told_so_far between) (told_so_far last) → IsBlank before.told.value → made ≡ last.told.value → IsWholeSpelling made →
    StartsOpen a number now link b.«open» mid new told b.ended → BeginsBeside kind a number now link old new made told w b
begins_beside kind a number now link old first mid new before between last made told w b speaker waits makes blank is whole starts =
    let m = told_so_far before in
    let k = told_so_far between in
    let n = told_so_far last in
    let are = objects_made a None first mid k n b.«open».objects makes in
    record {
      speaker = speaker;
      asked = asked_from a None first mid between last b.«open».objects makes;
      mid = run_state mid.book [];
      makes = makes_beside kind a w b.«open» old first mid m k n waits are before.net.now before.who.now made
          (told_is before.net.now before.who.now before last made (waits_notices kind w.top.0 ++ making_told None b.«open».objects) refl refl blank (both_given kind a w b.«open» old first mid m k n waits are) is whole);
      records = starts.records;
      text = starts.text;
      sets_out = starts.sets_out;
      leaves = leaves_beside kind w b old first new m k waits (leaves_else None b first mid new (objects_grown a None b.«open».objects first mid k n makes) starts.leaves);
    }
