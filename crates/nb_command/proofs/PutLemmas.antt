-- A value put where its block and its length allow it.
use Rattle.std.proofs.Common.{◌≡◌, ◌⊎◌, inl, inr, ℕ, List, Option, Some, None, Ok, Err, refl}
use Rattle.nb_settings.specs.declared.error.SetError.{SetError}
use Rattle.nb_settings.specs.declared.error.SetError.TheVariants as set_error
use Rattle.nb_settings.specs.declared.kind.Kind.{Kind}
use Rattle.nb_settings.specs.declared.setting.OwnedKey.{OwnedKey}
use Rattle.nb_settings.specs.Tables.{TableLists, setting_of, with_value, put_refusal}
use Rattle.nb_command.specs.declared.error.ApplyError.TheVariants as failure
use Rattle.nb_command.specs.Failures.{set_failure}
use Rattle.nb_command.specs.Settings.{put_answer, put_value}

answer_done : (why : Option SetError) (given new : TableLists) → why ≡ None → new ≡ given → put_answer why given ≡ Ok new
answer_done why given new none same = rw (none, same) refl

answer_refused : (refusal : Option SetError) (given : TableLists) (why : SetError) → refusal ≡ Some why → put_answer refusal given ≡ Err (set_failure why)
answer_refused refusal given why is = rw is refl

module _ (block at : List ℕ) (key : OwnedKey) (kind : Kind) (bytes : List ℕ) (table : TableLists) (same_block : at ≡ block) where
  -- the table with the value
  pub put_done : (new : TableLists) → put_refusal at key bytes table ≡ None → new ≡ with_value (setting_of at key kind bytes) table → put_value block key kind (Some bytes) table ≡ Ok new
  put_done new fits is =
      let fits_here = rw same_block at fits in
      let is_here = rw same_block at is in
      answer_done (put_refusal block key bytes table) (with_value (setting_of block key kind bytes) table) new fits_here is_here

  -- why it isn't put
  pub put_refused : (why : SetError) → ((why ≡ set_error.NoMemory) × (put_refusal at key bytes table ≡ None)) ⊎ (put_refusal at key bytes table ≡ Some why) → (set_failure why ≡ failure.NoMemory) ⊎ (put_value block key kind (Some bytes) table ≡ Err (set_failure why))
  put_refused why (inl none) = inl (rw none.0 refl)
  put_refused why (inr is) =
      let is_here = rw same_block at is in
      inr (answer_refused (put_refusal block key bytes table) (with_value (setting_of block key kind bytes) table) why is_here)
