-- The words of the command line.
use Rattle.std.specs.Prelude.{ℕ, ◌==◌, Bool, false, ◌&&◌, not, List, [], ◌∷◌, codes, Option, None, Some, if◌then◌else◌}
use Rattle.std.specs.Str.{bytes_eq, is_utf8}
use Rattle.xsubpp.specs.declared.command_line.CommandWords.{CommandWords}
use Rattle.xsubpp.specs.declared.command_line.CommandWords.TheVariants as words

-- a command with the words that name its files
pub data Command : Type 0 where
  Compile : (file : List ℕ) → Command
  Call : (file script : List ℕ) → Command
  Check : (file : List ℕ) → Command

-- the command that the code has found
abbrev pub command_view : CommandWords → Command
command_view (words.Compile file) = Compile file.now
command_view (words.Call file script) = Call file.now script.now
command_view (words.Check file) = Check file.now

abbrev pub begins_with_dash : List ℕ → Bool
begins_with_dash [] = false
begins_with_dash (b ∷ bs) = b == 45

-- a word that may name a file: a text that does not begin with a dash
abbrev pub is_file_word : List ℕ → Bool
is_file_word word = is_utf8 word && not (begins_with_dash word)

-- `compile FILE` or `check FILE`
abbrev pub with_file : List ℕ → List ℕ → Option Command
with_file command file =
    if not (is_file_word file) then None
    else if bytes_eq command (codes "compile") then Some (Compile file)
    else if bytes_eq command (codes "check") then Some (Check file)
    else None

-- `call FILE SCRIPT`
abbrev pub with_script : List ℕ → List ℕ → List ℕ → Option Command
with_script command file script =
    if bytes_eq command (codes "call") && (is_file_word file && is_file_word script) then Some
    (Call file script) else None

-- the command of a list of words, if it is one
abbrev pub command_of : List (List ℕ) → Option Command
command_of (command ∷ file ∷ []) = with_file command file
command_of (command ∷ file ∷ script ∷ []) = with_script command file script
command_of _ = None
