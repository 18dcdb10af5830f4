-- Something comes to opens that live, one after another.
use Rattle.std.specs.Prelude.{◌≡◌, ℕ, ◌==◌, List, [], ◌∷◌, ◌++◌, Option, Some, None, slice_get, if◌then◌else◌}
use Rattle.nb_terms.specs.declared.cause.Cause.{Cause}
use Rattle.nb_defs.specs.Records.{Out, ended}
use Rattle.nb_stack.specs.Client.{Client}
use Rattle.nb_machine.specs.Lives.{OpenInput, Live, exchange, continued}
use Rattle.nb_machine.specs.Kinds.{Keeps}

-- an open that has ended, and its cause
pub record Over : Type 0 where
  pub live : Live
  pub cause : Cause

-- the end of open k among records
abbrev pub end_told : ℕ → Out → Option Cause → Option Cause
end_told k (ended number cause) later = if number == k then Some cause else later
end_told k _ later = later

abbrev pub end_among : ℕ → List Out → Option Cause
end_among k [] = None
end_among k (o ∷ outs) = end_told k o (end_among k outs)

-- It comes to these opens in order, each over its own device. Each puts its records, so that its promises are kept;
-- those whose end is among them are over, the others live on.
pub data AllTake (devices : List Client) (came : OpenInput) : List Live → List Out → List Live → List Over → Type 0 where
  all_have : AllTake devices came [] [] [] []
  lives_on : (l : Live) (ls after : List Live) (link : Client) (put more : List Out) (over : List Over) → slice_get devices l.device ≡ Some link →
      Keeps (continued l (exchange came link put)) → end_among l.number put ≡ None → AllTake devices came ls more after over →
      AllTake devices came (l ∷ ls) (put ++ more) (continued l (exchange came link put) ∷ after) over
  is_over : (l : Live) (ls after : List Live) (link : Client) (put more : List Out) (over : List Over) (cause : Cause) → slice_get devices l.device ≡ Some link →
      Keeps (continued l (exchange came link put)) → end_among l.number put ≡ Some cause → AllTake devices came ls more after over →
      AllTake devices came (l ∷ ls) (put ++ more) after (record { live = continued l (exchange came link put); cause = cause } ∷ over)
