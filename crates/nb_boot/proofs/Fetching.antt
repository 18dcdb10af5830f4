-- A read of the feed that gave nothing.
use Rattle.std.proofs.Common.{◌≡◌, ℕ, List, [], ◌∷◌, ◌++◌, length, refl, ◌∙◌, ap, subst, append-nil, arith}
use Rattle.nb_record.specs.Outside.{Outside, Passes, IsAtEnd}
use Rattle.nb_record.specs.Bytes.{Held, TakesIn}
use Rattle.nb_record.proofs.OutsideLemmas.{Reads-passes}
use Rattle.nb_boot.proofs.BadRests.{end_stays}

none_given : (bytes : List ℕ) → length bytes ≡ 0 → bytes ≡ []
none_given [] h = refl
none_given (x ∷ xs) h = absurd (omega (arith, h))

pub gave_none : (n : ℕ) (old new : Held) (before now : Outside) → n ≡ 0 → TakesIn n old new before now → IsAtEnd before → (new ≡ old) × Passes before now [] [] × IsAtEnd now
gave_none n old new before now none t end =
    let nothing : t.bytes ≡ [] = none_given t.bytes (t.counted ∙ none) in
    let held : List ℕ → Held = λ b. record { bytes = b; passed = old.passed } in
    let passes = subst (λ b. Passes before now b []) nothing (Reads-passes before now t.bytes t.reads) in
    (t.held ∙ ap (λ b. held (old.bytes ++ b)) nothing ∙ ap held (append-nil old.bytes), passes, end_stays before now [] passes end)
