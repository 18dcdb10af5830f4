-- The arguments that a command gives an image are no longer than its words.
use Rattle.std.proofs.Common.{◌≡◌, ℕ, ◌+◌, ◌≤◌, Bool, true, false, cond, ◌||◌, List, [], ◌∷◌, length, codes, Option, Some, None, Result, Ok, Err, refl, subst, arith, length-append}
use Rattle.std.specs.Prelude.{sum_by, IfOk, IfSome}
use Rattle.std.specs.List.{join_with_byte}
use Rattle.std.specs.Option.{option_and_then}
use Rattle.std.specs.Str.{bytes_eq}
use Rattle.std.proofs.lemmas.List.Sums.{sum_by-cons}
use Rattle.nb_defs.specs.Commands.{is_option}
use Rattle.nb_imagecmd.specs.declared.command_names.ImageCommandName.{ImageCommandName}
use Rattle.nb_imagecmd.specs.declared.command_names.ImageCommandName.TheVariants.{Imgfetch, Initrd, Module, Imgselect, Kernel, Imgload, Imgexec, Chain, Boot, Imgargs, Imgfree, Imgstat}
use Rattle.nb_imagecmd.specs.declared.commands.ImageCommand.{ImageCommand}
use Rattle.nb_imagecmd.specs.declared.commands.ImageCommand.TheVariants as command
use Rattle.nb_imagecmd.specs.declared.error.PlanError.{PlanError}
use Rattle.nb_imagecmd.specs.declared.error.PlanError.TheVariants.{Usage}
use Rattle.nb_imagecmd.specs.CommandNames.{image_command_named}
use Rattle.nb_imagecmd.specs.Options.{OptionsRead, with_name, with_autofree, with_replace, options_read, named_options}
use Rattle.nb_imagecmd.specs.Reading.{SourceRead, source_after, source_with, fetch_of, fetch_read, select_of, select_read, exec_after, exec_of, exec_read, imgargs_read, imgfree_read, imgstat_read, named_read, read_where, image_command}
use Rattle.nb_imagecmd.specs.Promises.{args_len}

-- the bytes of words, with one between each two and after the last
abbrev room : List (List ℕ) → ℕ
room ws = sum_by length ws + length ws

room_cons : (w : List ℕ) (ws : List (List ℕ)) → room (w ∷ ws) ≡ length w + 1 + room ws
room_cons w ws = omega (arith, sum_by-cons length w ws)

-- joined words have no more bytes
join_room : (ws : List (List ℕ)) → length (join_with_byte 32 ws) ≤ room ws
join_room [] = omega arith
join_room (w ∷ []) = omega (arith, room_cons w [])
join_room (w ∷ v ∷ ws) = omega (arith, room_cons w (v ∷ ws), join_room (v ∷ ws), length-append w (32 ∷ join_with_byte 32 (v ∷ ws)))

-- the words after options are among the words
abbrev RestFits : ℕ → Option OptionsRead → Type 0
RestFits most o = IfSome o (λ (r : OptionsRead). room r.rest ≤ most)

named_fits : (most : ℕ) (name : List ℕ) (o : Option OptionsRead) → RestFits most o → RestFits most (option_and_then (with_name name) o)
named_fits most name None h = tt
named_fits most name (Some r) h = by r.name
  where
    by : (given : Option (List ℕ)) → RestFits most (with_name name (record r { name = given }))
    by None = h
    by (Some other) = tt

autofree_fits : (most : ℕ) (o : Option OptionsRead) → RestFits most o → RestFits most (option_and_then with_autofree o)
autofree_fits most None h = tt
autofree_fits most (Some r) h = by r.autofree
  where
    by : (b : Bool) → RestFits most (cond b None (Some (record r { autofree = true })))
    by true = tt
    by false = h

replace_fits : (most : ℕ) (o : Option OptionsRead) → RestFits most o → RestFits most (option_and_then with_replace o)
replace_fits most None h = tt
replace_fits most (Some r) h = by r.replace
  where
    by : (b : Bool) → RestFits most (cond b None (Some (record r { replace = true })))
    by true = tt
    by false = h

either_fits : (most : ℕ) (b : Bool) (x y : Option OptionsRead) → RestFits most x → RestFits most y → RestFits most (cond b x y)
either_fits most true x y h k = h
either_fits most false x y h k = k

looser : (few most : ℕ) (o : Option OptionsRead) → few ≤ most → RestFits few o → RestFits most o
looser few most None less h = tt
looser few most (Some r) less h = omega (arith, less, h)

mutual
  unfolding options_read

  options_fit : (ws : List (List ℕ)) → RestFits (room ws) (options_read ws)
  options_fit [] = omega arith
  options_fit (w ∷ ws) =
      let less : room ws ≤ room (w ∷ ws) = omega (arith, room_cons w ws) in
      let whole = looser (room ws) (room (w ∷ ws)) in
      either_fits (room (w ∷ ws)) (bytes_eq w (codes "--name")) _ _ (whole (named_options ws) less (named_fit ws))
      (either_fits (room (w ∷ ws)) (bytes_eq w (codes "--autofree")) _ _ (whole (option_and_then with_autofree (options_read ws)) less (autofree_fits (room ws) (options_read ws) (options_fit ws)))
      (either_fits (room (w ∷ ws)) (bytes_eq w (codes "--replace")) _ _ (whole (option_and_then with_replace (options_read ws)) less (replace_fits (room ws) (options_read ws) (options_fit ws)))
      (either_fits (room (w ∷ ws)) (is_option w) _ _ tt (omega arith))))

  named_fit : (ws : List (List ℕ)) → RestFits (room ws) (named_options ws)
  named_fit [] = tt
  named_fit (w ∷ ws) =
      looser (room ws) (room (w ∷ ws)) (option_and_then (with_name w) (options_read ws)) (omega (arith, room_cons w ws)) (named_fits (room ws) w (options_read ws) (options_fit ws))

-- COMMANDS

abbrev ReadShort : Result ImageCommand PlanError → Type 0
ReadShort r = IfOk r (λ c. args_len c ≤ 4160)

rest_short : (w : List ℕ) (args ws : List (List ℕ)) → ws ≡ w ∷ args → room ws ≤ 4160 → length (join_with_byte 32 args) ≤ 4160
rest_short w args ws is few = let few1 : room (w ∷ args) ≤ 4160 = subst (λ xs. room xs ≤ 4160) is few in omega (arith, few1, room_cons w args, join_room args)

abbrev SourceShort : Option SourceRead → Type 0
SourceShort o = IfSome o (λ (s : SourceRead). length (join_with_byte 32 s.args) ≤ 4160)

after_short : (name : Option (List ℕ)) (ws : List (List ℕ)) → room ws ≤ 4160 → SourceShort (source_after name ws)
after_short name [] few = tt
after_short name (uri ∷ args) few = rest_short uri args (uri ∷ args) refl few

with_short : (r : OptionsRead) → room r.rest ≤ 4160 → SourceShort (source_with r)
with_short r few = by (r.autofree || r.replace)
  where
    by : (b : Bool) → SourceShort (cond b None (source_after r.name r.rest))
    by true = tt
    by false = after_short r.name r.rest few

source_short : (o : Option OptionsRead) → RestFits 4160 o → SourceShort (option_and_then source_with o)
source_short None h = tt
source_short (Some r) h = with_short r h

fetch_short : (o : Option SourceRead) → SourceShort o → ReadShort (fetch_of o)
fetch_short None h = tt
fetch_short (Some s) h = h

select_short : (o : Option SourceRead) → SourceShort o → ReadShort (select_of o)
select_short None h = tt
select_short (Some s) h = h

exec_rest_short : (r : OptionsRead) (ws : List (List ℕ)) → room ws ≤ 4160 → args_len (exec_after r ws) ≤ 4160
exec_rest_short r [] few = omega arith
exec_rest_short r (uri ∷ args) few = rest_short uri args (uri ∷ args) refl few

exec_short : (o : Option OptionsRead) → RestFits 4160 o → ReadShort (exec_of o)
exec_short None h = tt
exec_short (Some r) h = exec_rest_short r r.rest h

args_read_short : (ws : List (List ℕ)) → room ws ≤ 4160 → ReadShort (imgargs_read ws)
unfolding imgargs_read
args_read_short [] few = tt
args_read_short (name ∷ args) few = by (is_option name)
  where
    by : (b : Bool) → ReadShort (cond b (Err Usage) (Ok (command.Imgargs name args)))
    by true = tt
    by false = rest_short name args (name ∷ args) refl few

free_read_short : (ws : List (List ℕ)) → ReadShort (imgfree_read ws)
unfolding imgfree_read
free_read_short [] = omega arith
free_read_short (name ∷ names) = by (is_option name)
  where
    by : (b : Bool) → ReadShort (cond b (Err Usage) (Ok (command.Imgfree (name ∷ names))))
    by true = tt
    by false = omega arith

stat_read_short : (ws : List (List ℕ)) → ReadShort (imgstat_read ws)
unfolding imgstat_read
stat_read_short [] = omega arith
stat_read_short (w ∷ ws) = tt

named_short : (name : ImageCommandName) (ws : List (List ℕ)) → room ws ≤ 4160 → ReadShort (named_read name ws)
named_short Imgfetch ws few = fetch_short _ (source_short (options_read ws) (looser (room ws) 4160 (options_read ws) few (options_fit ws)))
named_short Initrd ws few = fetch_short _ (source_short (options_read ws) (looser (room ws) 4160 (options_read ws) few (options_fit ws)))
named_short Module ws few = fetch_short _ (source_short (options_read ws) (looser (room ws) 4160 (options_read ws) few (options_fit ws)))
named_short Imgselect ws few = select_short _ (source_short (options_read ws) (looser (room ws) 4160 (options_read ws) few (options_fit ws)))
named_short Kernel ws few = select_short _ (source_short (options_read ws) (looser (room ws) 4160 (options_read ws) few (options_fit ws)))
named_short Imgload ws few = select_short _ (source_short (options_read ws) (looser (room ws) 4160 (options_read ws) few (options_fit ws)))
named_short Imgexec ws few = exec_short (options_read ws) (looser (room ws) 4160 (options_read ws) few (options_fit ws))
named_short Chain ws few = exec_short (options_read ws) (looser (room ws) 4160 (options_read ws) few (options_fit ws))
named_short Boot ws few = exec_short (options_read ws) (looser (room ws) 4160 (options_read ws) few (options_fit ws))
named_short Imgargs ws few = args_read_short ws few
named_short Imgfree ws few = free_read_short ws
named_short Imgstat ws few = stat_read_short ws

where_short : (o : Option ImageCommandName) (ws : List (List ℕ)) → room ws ≤ 4160 → ReadShort (read_where o ws)
where_short None ws few = tt
where_short (Some name) ws few = named_short name ws few

read_short : (ws : List (List ℕ)) → room ws ≤ 4160 → ReadShort (image_command ws)
unfolding image_command
read_short [] few = tt
read_short (name ∷ ws) few = where_short (image_command_named name) ws (omega (arith, few, room_cons name ws))

-- a command on images of words that a command may have
pub command_short : (ws : List (List ℕ)) (c : ImageCommand) → length ws ≤ 64 → sum_by length ws ≤ 4096 → image_command ws ≡ Ok c → args_len c ≤ 4160
command_short ws c few total is = subst (λ (r : Result ImageCommand PlanError). ReadShort r) is (read_short ws (omega (arith, few, total)))
