-- What a phase says that lets a line come.
use Rattle.std.proofs.Common.{◌≡◌, true, false, refl}
use Rattle.dt_job.specs.declared.phases.Phase.{Phase}
use Rattle.dt_job.specs.declared.phases.Phase.TheVariants as phase
use Rattle.dt_job.specs.Phases.{is_past_declarations, is_whole, knows_machine, takes_declaration, takes_machine}

-- the machine comes behind the version alone
pub machine_phase : (p : Phase) → takes_machine p ≡ true → p ≡ phase.Machine
machine_phase phase.Version e = cc
machine_phase phase.Machine e = refl
machine_phase phase.Declarations e = cc
machine_phase (phase.Open s) e = cc
machine_phase phase.Statements e = cc
machine_phase phase.Outputs e = cc

-- declarations come before any statement
pub declaration_phase : (p : Phase) → takes_declaration p ≡ true → is_past_declarations p ≡ false
declaration_phase phase.Version e = cc
declaration_phase phase.Machine e = cc
declaration_phase phase.Declarations e = refl
declaration_phase (phase.Open s) e = cc
declaration_phase phase.Statements e = cc
declaration_phase phase.Outputs e = cc

-- a job that may end knows its machine
pub whole_phase : (p : Phase) → is_whole p ≡ true → knows_machine p ≡ true
whole_phase phase.Version e = cc
whole_phase phase.Machine e = cc
whole_phase phase.Declarations e = refl
whole_phase (phase.Open s) e = cc
whole_phase phase.Statements e = refl
whole_phase phase.Outputs e = refl
