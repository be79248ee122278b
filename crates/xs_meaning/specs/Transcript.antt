-- The lines of a transcript: what is reported of each command of a script.
use Rattle.std.specs.Fmt.{decimal}
use Rattle.std.specs.List.{enumerate_from, flat_map}
use Rattle.std.specs.Prelude.{ℕ, ◌==◌, List, [], ◌∷◌, ◌++◌, length, position, codes, Option, None, Some}
use Rattle.xs_meaning.specs.declared.call_command.CallCommand.{CallCommand}
use Rattle.xs_script.specs.ValueText.{quoted_text}
use Rattle.xs_values.specs.declared.trap.Trap.{Trap}
use Rattle.xs_values.specs.declared.trap.Trap.TheVariants.{Overflow, Zero, Shift, Unset, Null, Bounds, Kind, Freed, Gone, Stale, Scope, Large}

-- how a call ends: it returns scalars by their names, croaks with a text, traps, or has no turn
-- left
pub data CallEnd : Type 0 where
  Returned : List ℕ → CallEnd
  Croaked : List ℕ → CallEnd
  Trapped : Trap → CallEnd
  Spent : CallEnd

abbrev pub trap_name : Trap → List ℕ
trap_name Overflow = codes "Overflow"
trap_name Zero = codes "Zero"
trap_name Shift = codes "Shift"
trap_name Unset = codes "Unset"
trap_name Null = codes "Null"
trap_name Bounds = codes "Bounds"
trap_name Kind = codes "Kind"
trap_name Freed = codes "Freed"
trap_name (Gone name next) = codes "Gone"
trap_name Stale = codes "Stale"
trap_name Scope = codes "Scope"
trap_name Large = codes "Large"

-- `call LINE NAME`
unfoldable pub call_text : CallCommand → List ℕ
call_text c = codes "call " ++ decimal c.line ++ codes " " ++ c.sub

-- what stands after `call LINE NAME` and after `boot`
unfoldable pub returned_text : ℕ → List ℕ
returned_text n = codes " returned " ++ decimal n ++ codes "\n"

unfoldable pub croaked_text : List ℕ → List ℕ
croaked_text text = codes " croaked " ++ quoted_text text ++ codes "\n"

-- a trap in the work between the calls, and one that ends a call
unfoldable pub own_trap_text : Trap → List ℕ
own_trap_text trap = codes "trapped " ++ trap_name trap ++ codes "\n"

unfoldable pub trapped_text : Trap → List ℕ
trapped_text trap = codes " " ++ own_trap_text trap

unfoldable pub spent_text : List ℕ
spent_text = codes " spent\n"

abbrev pub alias_at : Option ℕ → List ℕ
alias_at None = []
alias_at (Some k) = codes " is arg " ++ decimal k

-- whether a scalar is that of an argument: the least such argument is reported
unfoldable pub alias_text : List ℕ → ℕ → List ℕ
alias_text args name = alias_at (position (λ a. a == name) args)

unfoldable pub item_line : (ℕ → List ℕ) → List ℕ → ℕ → ℕ → List ℕ
item_line show args place name =
    codes "  item " ++ decimal place ++ codes " = " ++ show name ++ alias_text args name
    ++ codes "\n"

-- a line for each item, counted from a place
abbrev pub item_lines : (ℕ → List ℕ) → List ℕ → ℕ → List ℕ → List ℕ
item_lines show args place names =
    flat_map (λ q. item_line show args q.0 q.1) (enumerate_from place names)

unfoldable pub arg_line : (ℕ → List ℕ) → ℕ → ℕ → List ℕ
arg_line show place name =
    codes "  arg " ++ decimal place ++ codes " = " ++ show name ++ codes "\n"

-- a line for each argument, counted from a place
abbrev pub arg_lines : (ℕ → List ℕ) → ℕ → List ℕ → List ℕ
arg_lines show place names = flat_map (λ q. arg_line show q.0 q.1) (enumerate_from place names)

unfoldable pub live_line : ℕ → ℕ → ℕ → List ℕ
live_line live marks scopes =
    codes "  live " ++ decimal live ++ codes " marks " ++ decimal marks ++ codes " scopes "
    ++ decimal scopes ++ codes "\n"

-- the lines of an outcome: after a trap and a spent budget nothing follows
abbrev pub end_lines : (ℕ → List ℕ) → List ℕ → CallEnd → List ℕ
end_lines show args (Returned items) =
    returned_text (length items) ++ (item_lines show args 0 items ++ arg_lines show 0 args)
end_lines show args (Croaked text) = croaked_text text ++ arg_lines show 0 args
end_lines show args (Trapped trap) = trapped_text trap
end_lines show args Spent = spent_text

-- ---- a script, command by command, whatever is after it

-- what is reported of a command, and the state after it where the script goes on
pub record Report (S : Type 0) : Type 0 where
  pub text : List ℕ
  pub next : Option S

-- lines in front of what is reported
abbrev pub in_front : {S : Type 0} → List ℕ → Report S → Report S
in_front text t = record { text = text ++ t.text; next = t.next }

-- What is reported of a call by its end, with the begin of its first line: the lines of the end,
-- and what is reported after it where the script goes on.
abbrev pub end_report : {S : Type 0} → (S → ℕ → List ℕ) → (S → Report S) → List ℕ → List ℕ → CallEnd
    → S → Report S
end_report show after head args (Returned items) s =
    in_front (head ++ end_lines (show s) args (Returned items)) (after s)
end_report show after head args (Croaked text) s =
    in_front (head ++ end_lines (show s) args (Croaked text)) (after s)
end_report show after head args (Trapped trap) s =
    record { text = head ++ end_lines (show s) args (Trapped trap); next = None }
end_report show after head args Spent s =
    record { text = head ++ end_lines (show s) args Spent; next = None }

abbrev pub go_on : {S : Type 0} → Option S → (S → List ℕ) → List ℕ
go_on None more = []
go_on (Some s) more = more s

-- the commands in their order
abbrev pub calls_report : {S : Type 0} → (S → CallCommand → Report S) → S → List CallCommand
    → List ℕ
calls_report report s [] = []
calls_report report s (c ∷ cs) =
    (report s c).text ++ go_on (report s c).next (λ next. calls_report report next cs)

-- the boot, and the commands after it
abbrev pub script_report : {S : Type 0} → (S → CallCommand → Report S) → Report S → List CallCommand
    → List ℕ
script_report report boot cs = boot.text ++ go_on boot.next (λ s. calls_report report s cs)
