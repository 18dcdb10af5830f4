-- own: the keys of settings
use Rattle.std.specs.Prelude.{◌==◌, ◌&&◌, Bool, false}
use Rattle.std.specs.Str.{bytes_eq}
use Rattle.nb_settings.specs.declared.key.Key.{Key}
use Rattle.nb_settings.specs.declared.key.Key.TheVariants as key
use Rattle.nb_settings.specs.declared.setting.OwnedKey.{OwnedKey}
use Rattle.nb_settings.specs.declared.setting.OwnedKey.TheVariants.{Tag, Sub, Free}

-- a key, without where its name lies in memory
abbrev pub key_of : Key → OwnedKey
key_of (key.Tag number) = Tag number
key_of (key.Sub outer inner) = Sub outer inner
key_of (key.Free name) = Free name.now

-- two keys are the same
abbrev pub same_key : OwnedKey → OwnedKey → Bool
same_key (Tag number) (Tag other) = number == other
same_key (Tag number) (Sub outer inner) = false
same_key (Tag number) (Free name) = false
same_key (Sub outer inner) (Sub outer' inner') = (outer == outer') && (inner == inner')
same_key (Sub outer inner) (Tag number) = false
same_key (Sub outer inner) (Free name) = false
same_key (Free name) (Free other) = bytes_eq name other
same_key (Free name) (Tag number) = false
same_key (Free name) (Sub outer inner) = false
