-- The public calls' runs.
use Rattle.nb_ledger.specs.Flat.{Heard}
use Rattle.std.proofs.Common.{◌≡◌, List, [], ◌∷◌, ◌++◌, Option, refl, inl}
use Rattle.nb_ledger.specs.declared.port.ObjId.{ObjId}
use Rattle.nb_ledger.specs.declared.port.Port.{Port}
use Rattle.nb_ledger.specs.declared.port.PortState.{PortState}
use Rattle.nb_ledger.specs.declared.port.PortState.TheVariants as state
use Rattle.nb_ledger.specs.declared.event.GraphEvent.{GraphEvent}
use Rattle.nb_ledger.specs.declared.event.GraphEvent.TheVariants.{LetGo, Dropped}
use Rattle.nb_ledger.specs.GraphRun.{OnStack, IsIdle, Step, MayDrop, owed}
use Rattle.nb_ledger.specs.Flat.{Tells}
use Rattle.nb_ledger.specs.Ledger.{Ledger, port, run_state, Agrees}
use Rattle.nb_ledger.specs.Settled.{Settles}
use Rattle.nb_ledger.proofs.RunLemmas.{Run-append, Tells-append, Told-none}
use Rattle.nb_effects.specs.Whole.{IsQuiet, Began, Runs, IsRun}
use Rattle.nb_effects.specs.Calm.{Calm, Starts}

-- one event
pub Runs-one : (old new : Ledger) (before after : Heard) (e : GraphEvent) → Tells before after (e ∷ []) → ((st : List OnStack) → IsIdle st → Step (run_state old st) e (run_state new st)) → Runs old new before after (e ∷ [])
Runs-one old new before after e told step = record { told = told; run = (run_state new [], step [] tt, refl) }

-- two events
pub Runs-two : (old mid new : Ledger) (before between after : Heard) (e d : GraphEvent) → Tells before between (e ∷ []) → Tells between after (d ∷ []) → ((st : List OnStack) → IsIdle st → Step (run_state old st) e (run_state mid st)) → ((st : List OnStack) → IsIdle st → Step (run_state mid st) d (run_state new st)) → Runs old new before after (e ∷ d ∷ [])
Runs-two old mid new before between after e d told more step next = record {
  told = Tells-append before between after (e ∷ []) (d ∷ []) told more;
  run = (run_state mid [], step [] tt, (run_state new [], next [] tt, refl));
}

-- no entry runs
pub Agrees-quiet : (l : Ledger) → IsQuiet l → Agrees l []
Agrees-quiet l q = λ x. q.idle x

-- a hold is let go, and what is owed then is done
unfoldable pub IsRun-let_go : (old mid new : Ledger) (before between after : Heard) (id : ObjId) → IsQuiet mid → Tells before between (LetGo id ∷ []) → ((st : List OnStack) → IsIdle st → Step (run_state old st) (LetGo id) (owed id.0 (run_state mid st))) → Settles mid new between after id → IsRun old new before after
IsRun-let_go old mid new before between after id q told step s = (
  LetGo id ∷ s.added,
  record {
    told = Tells-append before between after (LetGo id ∷ []) s.added told s.told;
    run = (owed id.0 (run_state mid []), step [] tt, s.run [] (Agrees-quiet mid q));
  },
)

-- a calm call's events
pub IsRun-calm : (old new : Ledger) (before after : Heard) → IsQuiet old → Calm old new before after → IsRun old new before after
IsRun-calm old new before after q k = (k.added, record { told = k.told; run = k.run [] tt (Agrees-quiet old q) })

-- and their first
pub Began-starts : (old new : Ledger) (before after : Heard) (e : GraphEvent) → IsQuiet old → Starts old new before after e → Began old new before after e
Began-starts old new before after e q s = (s.rest, record { told = s.told; run = s.run [] tt (Agrees-quiet old q) })

may-drop : (l : Ledger) (p : Port) (v : PortState) → port l p.obj.0 p.slot ≡ v → (port l p.obj.0 p.slot ≡ state.Open → ⊥) → MayDrop (run_state l []) p.obj.0 (port l p.obj.0 p.slot)
may-drop l p state.Open h n = absurd (n h)
may-drop l p (state.Linked q) h n = rw h (inl refl)
may-drop l p (state.Leaving q) h n = rw h tt
may-drop l p state.Closed h n = rw h tt

-- a message is dropped outside all entries
pub Runs-drop : (l : Ledger) (before after : Heard) (p : Port) → (port l p.obj.0 p.slot ≡ state.Open → ⊥) → Tells before after (Dropped p ∷ []) → Runs l l before after (Dropped p ∷ [])
Runs-drop l before after p n told = record { told = told; run = (run_state l [], (tt, may-drop l p (port l p.obj.0 p.slot) refl n, refl), refl) }

-- nothing happens
unfoldable pub IsRun-none : (l : Ledger) (before : Heard) → IsRun l l before before
IsRun-none l before = ([], record { told = Told-none before; run = refl })

-- one after the other
unfoldable pub IsRun-trans : (a b c : Ledger) (m n o : Heard) → IsRun a b m n → IsRun b c n o → IsRun a c m o
IsRun-trans a b c m n o p q = (
  p.0 ++ q.0,
  record {
    told = Tells-append m n o p.0 q.0 p.1.told q.1.told;
    run = Run-append (run_state a []) (run_state b []) (run_state c []) p.0 q.0 p.1.run q.1.run;
  },
)
