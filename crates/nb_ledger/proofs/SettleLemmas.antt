-- An object is freed, or stays.
use Rattle.nb_ledger.specs.Flat.{Heard}
use Rattle.std.proofs.Common.{◌≡◌, true, false, List, [], ◌∷◌, Option, refl, inl, inr}
use Rattle.nb_ledger.specs.declared.port.ObjId.{ObjId}
use Rattle.nb_ledger.specs.declared.event.GraphEvent.TheVariants.{Freed}
use Rattle.nb_ledger.specs.GraphRun.{OnStack, MustFree, Step}
use Rattle.nb_ledger.specs.Flat.{Tells}
use Rattle.nb_ledger.specs.Ledger.{Ledger, run_state, unused}
use Rattle.nb_ledger.specs.Changes.{Removes}
use Rattle.nb_ledger.specs.Settled.{Settles}
use Rattle.nb_ledger.proofs.CountLemmas.{owed-unused, owed-used}
use Rattle.nb_ledger.proofs.RunLemmas.{Told-none}

-- an object without use is freed
unfoldable pub Settles-free : (old new : Ledger) (before after : Heard) (id : ObjId) → unused old id.0 ≡ true → Tells before after (Freed id ∷ []) → ((st : List OnStack) → Step (run_state old (MustFree id.0 ∷ st)) (Freed id) (run_state new st)) → Removes old new id.0 → Settles old new before after id
Settles-free old new before after id is_so told step gone = record {
  added = Freed id ∷ [];
  told = told;
  run = λ st a. rw (owed-unused old st id.0 a is_so) (run_state new st, step st, refl);
  how = inr (is_so, gone);
}

-- one that is used stays
unfoldable pub Settles-stay : (old : Ledger) (before : Heard) (id : ObjId) → unused old id.0 ≡ false → Settles old old before before id
Settles-stay old before id is_not = record {
  added = [];
  told = Told-none before;
  run = λ st a. owed-used old st id.0 a is_not;
  how = inl (refl, is_not);
}
