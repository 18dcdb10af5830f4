-- What an entry asks for, by what holds of each thing that it may ask for.
use Rattle.std.proofs.Common.{◌≡◌, ℕ, Bool, true, false, List, [], ◌∷◌, ◌++◌, Option, Some, None, refl}
use Rattle.std.specs.List.{AllByRecursion}
use Rattle.nb_terms.specs.declared.cause.Cause.{Cause}
use Rattle.nb_ledger.specs.declared.event.Way.{Way}
use Rattle.nb_ledger.specs.declared.event.Way.TheVariants as way
use Rattle.nb_effects.specs.declared.effects.Fx.{Fx}
use Rattle.nb_effects.specs.declared.effects.Make.{Make}
use Rattle.nb_effects.specs.declared.effects.Emit.{Emit}
use Rattle.nb_effects.specs.declared.effects.Few.{Few}
use Rattle.nb_graph.specs.Trace.{Nature, Said, in_list, lent}
use Rattle.nb_graph.specs.Deeds.{Stage, Closes, Sends, Returns, Settles, closes_of, makes_of, returns_of, emit_of, few_of, runs_of, settles_by, no_memory}
use Rattle.nb_graph.specs.Whole.{port_at}

module _ {N L : Type 0} (known : Nature N L) (Q : Stage N L → Type 0) where
  pub each-append : (gs hs : List (Stage N L)) → AllByRecursion Q gs → AllByRecursion Q hs → AllByRecursion Q (gs ++ hs)
  each-append [] hs a b = b
  each-append (g ∷ gs) hs a b = (a.0, each-append gs hs a.1 b)

  -- what may be asked for of x
  pub record IsAllowed (x : ℕ) : Type 0 where
    pub closes : (k : ℕ) (c : Cause) → Q (Closes (port_at x k) c)
    pub sends : (k : ℕ) (m : Said) → Q (Sends (port_at x k) m)
    pub returns : (l : L) → Q (Returns x l)

  module _ (x : ℕ) (may : IsAllowed x) where
    each-closes : (cs : List (ℕ × Cause)) → AllByRecursion Q (closes_of x cs)
    each-closes [] = tt
    each-closes (c ∷ cs) = (may.closes c.0 c.1, each-closes cs)

    each-returns : (ls : List L) → AllByRecursion Q (returns_of x ls)
    each-returns [] = tt
    each-returns (l ∷ ls) = (may.returns l, each-returns ls)

    each-emit : (m : Said) (e : Option (Emit L)) → AllByRecursion Q (emit_of known x m e)
    each-emit m None = tt
    each-emit m (Some e) = (may.sends e.slot _, each-returns (in_list e.load))

    each-few : (m : Said) (f : Few (Emit L)) → AllByRecursion Q (few_of known x m f)
    each-few m f = each-append (emit_of known x m f.first) (emit_of known x m f.second) (each-emit m f.first) (each-emit m f.second)

    each-makes : (mk : Option (Make N)) → mk ≡ None → AllByRecursion Q (makes_of x mk)
    each-makes None e = tt
    each-makes (Some mk) e = absurd (let z = e in cc)

    -- so of all that an entry asks for that asks for no make
    pub each-runs : (m : Said) (done : Bool) (fx : Fx N L) → (done ≡ true → fx.makes ≡ None) → AllByRecursion Q (runs_of known x m done fx)
    each-runs m true fx none =
        each-append (makes_of x fx.makes) (few_of known x m fx.downs ++ (few_of known x m fx.ups ++ closes_of x fx.closes.items)) (each-makes fx.makes (none refl))
        (each-append (few_of known x m fx.downs) (few_of known x m fx.ups ++ closes_of x fx.closes.items) (each-few m fx.downs)
        (each-append (few_of known x m fx.ups) (closes_of x fx.closes.items) (each-few m fx.ups) (each-closes fx.closes.items)))
    each-runs m false fx none =
        each-append (returns_of x (lent fx)) _ (each-returns (lent fx))
        (may.closes 0 no_memory, (may.closes 1 no_memory, (may.closes 2 no_memory, (may.closes 3 no_memory, tt))))

  pub each-settles : (by : Way) (x : ℕ) → Q (Settles x) → AllByRecursion Q (settles_by by x)
  each-settles way.Up x h = (h, tt)
  each-settles way.Down x h = (h, tt)
  each-settles way.Time x h = (h, tt)
  each-settles way.Close x h = tt
