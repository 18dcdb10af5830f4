-- Drives whose open has ended are forgotten, one after the other.
use Rattle.std.proofs.Common.{◌≡◌, ◌≤◌, ℕ, ◌==◌, Bool, true, false, not, cond, List, [], ◌∷◌, length, Some, None, refl, sym, ◌∙◌, ap, subst, arith, eq-eqb}
use Rattle.std.specs.Prelude.{slice_get}
use Rattle.std.specs.List.{list_any}
use Rattle.std.proofs.lemmas.Bool.{eqb-true}
use Rattle.nb_drivecmd.specs.declared.drive.Drive.{Drive}
use Rattle.nb_drivecmd.specs.HookedDrives.{without_open}
use Rattle.nb_network.specs.declared.living.Living.{Living as Open}
use Rattle.nb_runner.specs.declared.world.World.{World}
use Rattle.nb_runner.specs.World.{world_with_drives}
use Rattle.nb_client.specs.Drives.{forgotten_at, forgotten_by}
use Rattle.nb_client.specs.Soundness.{has_its_open, kept_drives}

-- a drive's own open is its own
own_goes : (d : Drive) → not (d.open_number == d.open_number) ≡ false
own_goes d = ap not (eq-eqb d.open_number d.open_number refl)

-- one of another open is kept
other_kept : (list : List Open) (d e : Drive) → has_its_open list d ≡ false → has_its_open list e ≡ true → not (e.open_number == d.open_number) ≡ true
other_kept list d e gone lives = by (e.open_number == d.open_number) refl
  where
    by : (b : Bool) → (e.open_number == d.open_number) ≡ b → not b ≡ true
    by true same =
        let number : e.open_number ≡ d.open_number = eqb-true e.open_number d.open_number same in
        let here : list_any (λ o. o.speaker.number == d.open_number) list ≡ true = subst (λ n. list_any (λ o. o.speaker.number == n) list ≡ true) number lives in
        absurd (let two : true ≡ false = sym here ∙ gone in cc)
    by false same = refl

one_kept : (list : List Open) (d : Drive) → forgotten_by (Some d) list (d ∷ []) ≡ kept_drives list (d ∷ [])
one_kept list d = by (has_its_open list d)
  where
    by : (b : Bool) → cond b (d ∷ []) (without_open d.open_number (d ∷ [])) ≡ cond b (d ∷ []) []
    by true = refl
    by false = ap (λ b. cond b (d ∷ []) []) (own_goes d)

-- the second is forgotten, unless it lives: the first with it, where they have one open
second_gone : (list : List Open) (d e : Drive) → has_its_open list e ≡ false → forgotten_at 0 list (without_open e.open_number (d ∷ e ∷ [])) ≡ cond (has_its_open list d) (d ∷ []) []
second_gone list d e gone = by (not (d.open_number == e.open_number)) refl
  where
    last : without_open e.open_number (e ∷ []) ≡ []
    last = ap (λ b. cond b (e ∷ []) []) (own_goes e)

    both : (b : Bool) → not (d.open_number == e.open_number) ≡ b → without_open e.open_number (d ∷ e ∷ []) ≡ cond b (d ∷ []) []
    both b is = ap (λ c. cond c (d ∷ without_open e.open_number (e ∷ [])) (without_open e.open_number (e ∷ []))) is ∙ ap (λ xs. cond b (d ∷ xs) xs) last

    by : (b : Bool) → not (d.open_number == e.open_number) ≡ b → forgotten_at 0 list (without_open e.open_number (d ∷ e ∷ [])) ≡ cond (has_its_open list d) (d ∷ []) []
    by true is = ap (forgotten_at 0 list) (both true is) ∙ one_kept list d
    by false is = ap (forgotten_at 0 list) (both false is) ∙ sym (ap (λ b. cond b (d ∷ []) []) (other (has_its_open list d) refl))
      where
        other : (b : Bool) → has_its_open list d ≡ b → b ≡ false
        other true lives = absurd (let two : true ≡ false = sym (other_kept list e d gone lives) ∙ is in cc)
        other false lives = refl

first_gone : (list : List Open) (d e : Drive) → has_its_open list e ≡ true → forgotten_at 0 list (d ∷ e ∷ []) ≡ cond (has_its_open list d) (d ∷ e ∷ []) (e ∷ [])
first_gone list d e lives = by (has_its_open list d) refl
  where
    by : (b : Bool) → has_its_open list d ≡ b → cond b (d ∷ e ∷ []) (without_open d.open_number (d ∷ e ∷ [])) ≡ cond b (d ∷ e ∷ []) (e ∷ [])
    by true is = refl
    by false is =
        ap (λ b. cond b (d ∷ without_open d.open_number (e ∷ [])) (without_open d.open_number (e ∷ []))) (own_goes d)
        ∙ ap (λ b. cond b (e ∷ []) []) (other_kept list d e is lives)

-- of two drives at most
pub forgotten_all : (list : List Open) (ds : List Drive) → length ds ≤ 2 → forgotten_at 0 list (forgotten_at 1 list ds) ≡ kept_drives list ds
forgotten_all list [] few = refl
forgotten_all list (d ∷ []) few = one_kept list d
forgotten_all list (d ∷ e ∷ []) few = by (has_its_open list e) refl
  where
    by : (b : Bool) → has_its_open list e ≡ b → forgotten_at 0 list (cond b (d ∷ e ∷ []) (without_open e.open_number (d ∷ e ∷ []))) ≡ cond (has_its_open list d) (d ∷ cond b (e ∷ []) []) (cond b (e ∷ []) [])
    by true is = first_gone list d e is
    by false is = second_gone list d e is
forgotten_all list (d ∷ e ∷ f ∷ ds) few = absurd (omega (arith, few))

-- where none is hooked, none is forgotten
pub none_forgotten : (w : World) (list : List Open) → length w.state.drives ≡ 0 → w ≡ world_with_drives w (kept_drives list w.state.drives)
none_forgotten w list none = by w.state.drives refl none
  where
    by : (ds : List Drive) → w.state.drives ≡ ds → length ds ≡ 0 → w ≡ world_with_drives w (kept_drives list w.state.drives)
    by [] is empty = ap (world_with_drives w) is ∙ sym (ap (λ xs. world_with_drives w (kept_drives list xs)) is)
    by (d ∷ ds) is empty = absurd (omega (arith, empty))

-- AT ONE PLACE

module _ (w : World) (list : List Open) (place : ℕ) where
  -- no drive is there
  pub at_none : slice_get w.state.drives place ≡ None → w ≡ world_with_drives w (forgotten_at place list w.state.drives)
  at_none none = ap (λ x. world_with_drives w (forgotten_by x list w.state.drives)) (sym none)

  at_some : (d : Drive) (b : Bool) → slice_get w.state.drives place ≡ Some d → has_its_open list d ≡ b → forgotten_at place list w.state.drives ≡ cond b w.state.drives (without_open d.open_number w.state.drives)
  at_some d b some is = ap (λ x. forgotten_by x list w.state.drives) some ∙ ap (λ c. cond c w.state.drives (without_open d.open_number w.state.drives)) is

  -- its open lives
  pub at_kept : (d : Drive) → slice_get w.state.drives place ≡ Some d → has_its_open list d ≡ true → w ≡ world_with_drives w (forgotten_at place list w.state.drives)
  at_kept d some lives = ap (world_with_drives w) (sym (at_some d true some lives))

  -- its open has ended
  pub at_gone : (d : Drive) → slice_get w.state.drives place ≡ Some d → has_its_open list d ≡ false → world_with_drives w (without_open d.open_number w.state.drives) ≡ world_with_drives w (forgotten_at place list w.state.drives)
  at_gone d some gone = ap (world_with_drives w) (sym (at_some d false some gone))
