use Rattle.xs_sections.proofs.Hold.{holds_each, is_only_split, lines_stand, has_parts, reports_first}
use Rattle.xs_sections.proofs.splitting.split.Goals as goal

pub returns-clause-lines : goal.returns-clause-lines
returns-clause-lines c = holds_each c.read.result c.args.src.now c.read.ensures

pub returns-clause-split : goal.returns-clause-split
returns-clause-split c = is_only_split c.read.result c.args.src.now c.read.ensures

pub returns-clause-stands : goal.returns-clause-stands
returns-clause-stands c = lines_stand c.read.result c.args.src.now c.read.ensures

pub returns-clause-parts : goal.returns-clause-parts
returns-clause-parts c = has_parts c.read.result c.args.src.now c.read.ensures

pub returns-clause-first : goal.returns-clause-first
returns-clause-first c = reports_first c.read.result c.args.src.now c.read.ensures
