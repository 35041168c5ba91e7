-- The flags of a definition. Assumes nothing.
use Rattle.std.specs.Prelude.{◌≡◌, ℕ, true, false, ◌⊎◌, List, [], ◌∷◌, map, codes, Result, ◌≢◌}
use Rattle.host.specs.declared.told.SymbolDeclFlags.{SymbolDeclFlags}
use Rattle.words.specs.Spelled.{comma, Pieces}
use Rattle.words.specs.Texts.{Text}
use Rattle.record_text.specs.declared.flagging.Flag.{Flag}
use Rattle.record_text.specs.declared.flagging.Flag.TheVariants.{Overloads, Body, Export, Private, Member, Function, Class, Scope}
use Rattle.record_text.specs.Faults.{Unread}
use Rattle.record_text.specs.Fields.{dash, No, Read}

abbrev pub flag_word : Flag → Text
flag_word Overloads = codes "overloads"
flag_word Body = codes "body"
flag_word Export = codes "export"
flag_word Private = codes "private"
flag_word Member = codes "member"
flag_word Function = codes "function"
flag_word Class = codes "class"
flag_word Scope = codes "scope"

-- these flags, and this one too
abbrev pub raised : Flag → SymbolDeclFlags → SymbolDeclFlags
raised Overloads s = record { overloads = true; body = s.body; export = s.export; private = s.private; member = s.member; function = s.function; class = s.class; scope = s.scope }
raised Body s = record { overloads = s.overloads; body = true; export = s.export; private = s.private; member = s.member; function = s.function; class = s.class; scope = s.scope }
raised Export s = record { overloads = s.overloads; body = s.body; export = true; private = s.private; member = s.member; function = s.function; class = s.class; scope = s.scope }
raised Private s = record { overloads = s.overloads; body = s.body; export = s.export; private = true; member = s.member; function = s.function; class = s.class; scope = s.scope }
raised Member s = record { overloads = s.overloads; body = s.body; export = s.export; private = s.private; member = true; function = s.function; class = s.class; scope = s.scope }
raised Function s = record { overloads = s.overloads; body = s.body; export = s.export; private = s.private; member = s.member; function = true; class = s.class; scope = s.scope }
raised Class s = record { overloads = s.overloads; body = s.body; export = s.export; private = s.private; member = s.member; function = s.function; class = true; scope = s.scope }
raised Scope s = record { overloads = s.overloads; body = s.body; export = s.export; private = s.private; member = s.member; function = s.function; class = s.class; scope = true }

abbrev pub unflagged : SymbolDeclFlags
unflagged = record { overloads = false; body = false; export = false; private = false; member = false; function = false; class = false; scope = false }

-- just these flags
abbrev pub all_raised : SymbolDeclFlags → List Flag → SymbolDeclFlags
all_raised s [] = s
all_raised s (f ∷ fs) = all_raised (raised f s) fs

-- the words ws name the flags s
abbrev pub Raises : List Text → SymbolDeclFlags → Type 0
Raises ws s = (fs : List Flag) × (ws ≡ map flag_word fs) × (s ≡ all_raised unflagged fs)

-- w is a dash for no flag, and else names of flags with commas between them
abbrev pub FlagsSaid : Text → SymbolDeclFlags → Type 0
FlagsSaid w s = ((w ≡ dash) × (s ≡ unflagged)) ⊎ ((ws : List Text) × Pieces comma w ws × Raises ws s)

-- w names no flag
abbrev pub Flagless : Text → Type 0
Flagless w = (f : Flag) → w ≢ flag_word f

abbrev pub RaisedRead : List Text → ℕ → Result SymbolDeclFlags Unread → Type 0
RaisedRead ws = Read (Raises ws) (No (Raises ws))

abbrev pub FlagsRead : Text → ℕ → Result SymbolDeclFlags Unread → Type 0
FlagsRead w = Read (FlagsSaid w) (No (FlagsSaid w))
