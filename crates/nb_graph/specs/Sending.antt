-- The message that an entry asks for, as it is sent: our own.
use Rattle.std.specs.Prelude.{ℕ, List}
use Rattle.nb_effects.specs.declared.effects.Emit.{Emit}
use Rattle.nb_effects.specs.Trace.{Said}

-- with this record and these bytes
abbrev pub said_with : {L : Type 0} → Emit L → ℕ → List ℕ → Said
said_with e rec bytes = record { tag = e.tag; rec = rec; a = e.a; b = e.b; bytes = bytes }
