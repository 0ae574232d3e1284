-- Genus 2 without division (W-206, source 001). The way it is shown: every value of 001's two tables, divided by its power of Z, is the value of the affine tables (W-204) at the quotients U/Z and V/Z
-- (`Projective2`); where the last Z isn't 0, neither is r nor s1 (`Shares2`), and the affine tables give the rule's sum (`Affine2`, by the laws of `formulas`). So what a line through both pairs has to do with
-- their sum is proved once, for both tables of formulae, and equal quotients give equal quotients.
pub mod Affine2
pub mod Projective2
pub mod Shares2
